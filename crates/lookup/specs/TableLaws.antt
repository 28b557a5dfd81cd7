-- What a sound table is, as facts. Assumes nothing.
use Rattle.std.specs.Prelude.{ℕ, suc, ◌+◌, ◌≤◌, ◌<◌, ◌≡◌, true, List, eqb, length}
use Rattle.std.proofs.Common.{add-one, arith, leb-true, eqb-true}
use Rattle.laws.specs.BoolLaws.{both_pass}
use Rattle.laws.specs.SearchLaws.{every_at}
use Rattle.measure.specs.Diameter.{smallest, largest}
use Rattle.refusal.specs.Test.{within}
use Rattle.refusal.specs.TestLaws.{within_pass}
use Rattle.schedule.specs.Rows.{row_count, smallest_step, largest_step}
use Rattle.lookup.specs.Table.{row, keeps_up, never_falls, sound_table}

pub record SoundTable (dh step : ℕ) (table : List ℕ) : Type 0 where
  pub dh_low : smallest ≤ dh
  pub dh_high : dh ≤ largest
  pub step_low : smallest_step ≤ step
  pub step_high : step ≤ largest_step
  pub count : length table ≡ row_count dh step
  pub keeps_up : (i : ℕ) → i + 1 < row_count dh step → row table i ≤ row table (i + 1)

pub sound : (dh step : ℕ) (table : List ℕ) → sound_table dh step table ≡ true → SoundTable dh step table
unfolding sound_table never_falls
sound dh step table h =
    let a = both_pass (within smallest dh largest) _ h in
    let b = both_pass (within smallest_step step largest_step) _ a.1 in
    let c = both_pass (eqb (length table) (row_count dh step)) (never_falls table) b.1 in
    let limits = within_pass smallest dh largest a.0 in
    let steps = within_pass smallest_step step largest_step b.0 in
    let size = eqb-true (length table) (row_count dh step) c.0 in
    record {
      dh_low = limits.0;
      dh_high = limits.1;
      step_low = steps.0;
      step_high = steps.1;
      count = size;
      keeps_up = λ i l. rw add-one (leb-true _ _ (every_at (length table) (keeps_up table) c.1 (suc i) (omega arith)));
    }
