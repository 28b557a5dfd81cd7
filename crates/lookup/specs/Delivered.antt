-- The litres delivered between two dips: those at the second height less those at the first, with their sign, or the first refusal of the
-- two. Assumes nothing.
use Rattle.std.specs.Prelude.{ℕ, ◌≡◌, List, ltb, ℤ, pos, ◌+ℤ◌, ◌-ℤ◌, Result, Ok, Err}
use Rattle.laws.specs.Order.{pick}
use Rattle.measure.specs.Quantity.{volume_units}
use Rattle.refusal.specs.declared.Refusal.{Refusal}
use Rattle.lookup.specs.Litres.{OnTable}
use Rattle.lookup.specs.Answer.{litres_answer, LitresAnswer}

-- in v, below zero where the second height holds less
abbrev pub DeliveredAnswer : Type 0
DeliveredAnswer = Result ℤ Refusal

abbrev pub delivered_by : LitresAnswer → LitresAnswer → DeliveredAnswer
delivered_by (Err r) second = Err r
delivered_by (Ok a) (Err r) = Err r
delivered_by (Ok a) (Ok b) = Ok (pos (volume_units b) -ℤ pos (volume_units a))

unfoldable pub delivered_answer : (dh step : ℕ) (table : List ℕ) (before after : ℕ) → DeliveredAnswer
delivered_answer dh step table before after = delivered_by (litres_answer dh step table before) (litres_answer dh step table after)

-- of two heights the first that is above DH, if one is
abbrev pub higher : (dh before after : ℕ) → ℕ
higher dh before after = pick (ltb dh before) before after

-- d more at the second height than at the first: volumes a and b stand on the table at the two heights, and a + d = b
pub record Difference (dh step : ℕ) (table : List ℕ) (before after : ℕ) (d : ℤ) : Type 0 where
  pub a : ℕ
  pub b : ℕ
  pub at_first : OnTable dh step table before a
  pub at_second : OnTable dh step table after b
  pub adds_up : pos a +ℤ d ≡ pos b

-- of litres given as the answer, what they are, said outright
abbrev pub ReadOffBoth : (dh step : ℕ) (table : List ℕ) (before after : ℕ) → DeliveredAnswer → Type 0
ReadOffBoth dh step table before after (Ok d) = Difference dh step table before after d
ReadOffBoth dh step table before after (Err r) = Unit {0}
