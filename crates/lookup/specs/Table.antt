-- A table that a lookup takes (document 01, refusal 11): DH and step within their limits, exactly the row count, and no row below
-- the row before. Whoever made it. Assumes nothing.
use Rattle.std.specs.Prelude.{ℕ, zero, suc, ◌-◌, Bool, true, ◌&&◌, List, leb, eqb, length, get_or}
use Rattle.laws.specs.Search.{every}
use Rattle.measure.specs.Diameter.{smallest, largest}
use Rattle.refusal.specs.Test.{within}
use Rattle.schedule.specs.Rows.{row_count, smallest_step, largest_step}

-- row i of a table
abbrev pub row : List ℕ → ℕ → ℕ
row table i = get_or table i 0

-- the row at DH
abbrev pub last_row : (dh step : ℕ) → List ℕ → ℕ
last_row dh step table = row table (row_count dh step - 1)

-- row i is not below the row before
abbrev pub keeps_up : List ℕ → ℕ → Bool
keeps_up table zero = true
keeps_up table (suc i) = leb (row table i) (row table (suc i))

unfoldable pub never_falls : List ℕ → Bool
never_falls table = every (length table) (keeps_up table)

unfoldable pub sound_table : (dh step : ℕ) → List ℕ → Bool
sound_table dh step table =
    within smallest dh largest && (within smallest_step step largest_step && (eqb (length table) (row_count dh step) && never_falls table))
