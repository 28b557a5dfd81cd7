-- The lowest height for a volume is what the definition gives, and the only one; and the interval of heights that a search halves.
-- Assumes nothing.
use Rattle.std.specs.Prelude.{ℕ, ◌+◌, ◌≤◌, ◌<◌, ◌≡◌, true, List}
use Rattle.std.proofs.Common.{le_refl, lt_of_le_of_lt, arith}
use borrow.Author.Tests.{le-leb, lt-leb, leb-true, leb-false}
use Rattle.std.proofs.Math.Dec.{leb}
use Rattle.laws.specs.SearchLaws.{least_holds, least_first, least_unique, least_at_most}
use Rattle.lookup.specs.Table.{last_row, sound_table}
use Rattle.lookup.specs.TableLaws.{SoundTable, sound}
use Rattle.lookup.specs.Litres.{litres}
use Rattle.lookup.proofs.LitresLaws.{litres_at_top, litres_mono}
use Rattle.lookup.specs.Height.{height_for, Lowest}
use Rattle.lookup.specs.HeightLaws.{Among}

module _ {dh step : ℕ} {table : List ℕ} {w : ℕ} where
  pub lowest_is : {h : ℕ} → Lowest dh step table w h → height_for dh step table w ≡ h
  unfolding height_for
  lowest_is {h} l =
      least_unique dh _ h l.inside (le-leb _ _ l.reaches) (λ lower m. lt-leb _ _ (l.first lower m))

  -- where even the full tank reaches w, the definition gives the lowest
  pub reached : w ≤ litres dh step table dh → Lowest dh step table w (height_for dh step table w)
  unfolding height_for
  reached full =
      record {
        inside = least_at_most dh _;
        reaches = leb-true _ _ (least_holds dh (λ h. leb w (litres dh step table h)) dh (le_refl dh) (le-leb _ _ full));
        first = λ lower m. leb-false _ _ (least_first dh (λ h. leb w (litres dh step table h)) lower m);
      }

  -- at first it is any height of the tank
  pub among_all : sound_table dh step table ≡ true → w ≤ last_row dh step table → Among dh step table w 0 dh
  among_all e full =
      record {
        order = omega arith;
        inside = le_refl dh;
        reaches = rw (litres_at_top dh step table (sound dh step table e)) full;
        first = λ lower l. absurd (omega arith);
      }

  -- one height is left
  pub among_one : {low high : ℕ} → low ≡ high → Among dh step table w low high → Lowest dh step table w low
  among_one e a = rw e (record { inside = a.inside; reaches = a.reaches; first = rw e at a.first })

  -- too few litres at the middle: it is above; enough: it is the middle or below
  pub among_upper : (low middle high : ℕ) → SoundTable dh step table → middle < high → litres dh step table middle < w
      → Among dh step table w low high → Among dh step table w (middle + 1) high
  among_upper low middle high s m few a =
      record {
        order = omega arith;
        inside = a.inside;
        reaches = a.reaches;
        first = λ lower l. lt_of_le_of_lt (litres_mono dh step table s lower middle (omega arith) (omega (arith, a.inside))) few;
      }

  pub among_lower : (low middle high : ℕ) → low ≤ middle → middle ≤ high → w ≤ litres dh step table middle
      → Among dh step table w low high → Among dh step table w low middle
  among_lower low middle high l m enough a =
      record { order = l; inside = omega (arith, a.inside); reaches = enough; first = a.first }
