-- How a survey is held in memory of a fixed size: its items at the front of an array, and behind them items that take nothing. Assumes nothing.
use Rattle.std.specs.Prelude.{ℕ, ◌≤◌, ◌≡◌, List, ◌++◌, length, take, drop, replicate}
use Rattle.std.specs.Prelude.{refl}
use Rattle.std.proofs.Common.{◌∙◌, ap, ap₂, arith, length-append, length-drop, length-take-le, take-append-drop, take_at, drop_at}
use Rattle.std.proofs.Math.ListN.{length-replicate}
use Rattle.deadwood.specs.declared.item.Deadwood.{Deadwood}
use Rattle.deadwood.specs.Item.{most_items, no_item}
use Rattle.survey.specs.declared.decode.Survey.{Survey}
use Rattle.survey.specs.declared.decode.Survey.TheInside.{Inside}
use Rattle.survey.specs.SurveyLaws.{SurveyLimits}

-- an array without items
abbrev pub no_items : List Deadwood
no_items = replicate most_items no_item

-- one with these items
abbrev pub filled_up : List Deadwood → List Deadwood
filled_up items = items ++ drop (length items) no_items

-- what is said of a survey: its items alone
abbrev pub contents : Inside → Survey
contents v = record { tank = v.tank; step = v.step; deadwood = take v.count v.items }

-- how these contents are held
abbrev pub held : Survey → Inside
held v = record { tank = v.tank; step = v.step; items = filled_up v.deadwood; count = length v.deadwood }

-- a survey that is not refused
pub record Accepted (v : Inside) : Type 0 where
  pub limits : SurveyLimits (contents v)
  pub few : v.count ≤ most_items
  pub whole : length v.items ≡ most_items
  pub filled : drop v.count v.items ≡ drop v.count no_items

-- which gives back how it is held
pub held_again : (v : Inside) → Accepted v → held (contents v) ≡ v
held_again v a =
    let size : length (take v.count v.items) ≡ v.count = length-take-le v.count v.items (omega (arith, a.few, a.whole)) in
    rw (size, ← a.filled, take-append-drop v.count v.items)

-- .. and of that nothing else is said; a survey that is not refused is held as one
module _ (v : Survey) where
  pub contents_again : contents (held v) ≡ v
  contents_again = ap (λ items. record { tank = v.tank; step = v.step; deadwood = items }) (take_at v.deadwood (drop (length v.deadwood) no_items) (length v.deadwood) refl)

  pub accepted : SurveyLimits v → Accepted (held v)
  accepted limits =
      let n = length v.deadwood in
      let behind = drop n no_items in
      record {
        limits = rw contents_again limits;
        few = limits.items.few;
        whole = omega (arith, length-append v.deadwood behind, length-drop n no_items, length-replicate most_items no_item, limits.items.few);
        filled = drop_at v.deadwood behind n refl;
      }
