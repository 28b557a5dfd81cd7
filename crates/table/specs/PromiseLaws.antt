-- What a caller takes from the statement of the call that makes a table, in the paper's own words: of every row that the answer counts, the
-- cell is gross less all shares, the gross row is the cell plus all shares, and condition 3 holds for any counts of slabs of shell, flanges
-- and heads and, for spherical caps, of lengths. Assumes nothing.
use Rattle.std.specs.Prelude.{ℕ, zero, suc, ◌<◌, ◌≡◌, List, pos, ◌+ℤ◌, ◌-ℤ◌, get_or, Ok}
use Rattle.std.proofs.Common.{arith}
use Rattle.measure.specs.Quantity.{diameter_units}
use Rattle.schedule.specs.Rows.{row_height}
use Rattle.slabs.specs.Slab.{Cut, Some}
use Rattle.tank.specs.Tank.{gross_at}
use Rattle.tank.specs.TotalLaws.{InWords}
use Rattle.tank.proofs.TotalLaws.{in_words}
use Rattle.deadwood.specs.Share.{shares_of}
use Rattle.survey.specs.declared.decode.Survey.{Survey}
use Rattle.rows.specs.Rows.{net_at}
use Rattle.table.specs.declared.make.Made.{Made}
use Rattle.table.specs.Condition3.{NetRowAt, Condition3At, EveryRow}

-- a cut for each of the three parts
abbrev cuts : (n1 n2 n3 m : ℕ) → ℕ → Cut
cuts n1 n2 n3 m zero = record { levels = n1; lengths = 1 }
cuts n1 n2 n3 m (suc zero) = record { levels = n2; lengths = 1 }
cuts n1 n2 n3 m (suc (suc k)) = record { levels = n3; lengths = m }

some_slabs : (n1 n2 n3 m : ℕ) → 0 < n1 → 0 < n2 → 0 < n3 → 0 < m → (part : ℕ) → Some (cuts n1 n2 n3 m part)
some_slabs n1 n2 n3 m p q r s zero = (p, omega arith)
some_slabs n1 n2 n3 m p q r s (suc zero) = (q, omega arith)
some_slabs n1 n2 n3 m p q r s (suc (suc k)) = (r, s)

module _ (v : Survey) (made : Made) (left : List ℕ) (i : ℕ) (counted : i < made.rows) where
  abbrev height : ℕ
  height = row_height (diameter_units v.tank.dh) v.step i

  pub cell_taken : EveryRow NetRowAt v (Ok made) left
      → pos (get_or left i 0) ≡ pos (gross_at v.tank height) -ℤ shares_of v.deadwood height
  unfolding net_at
  cell_taken every = every i counted

  pub gross_taken : EveryRow Condition3At v (Ok made) left
      → pos (gross_at v.tank height) ≡ pos (get_or left i 0) +ℤ shares_of v.deadwood height
  gross_taken every = (every i counted).restored

  pub slabs_taken : EveryRow Condition3At v (Ok made) left
      → (n1 n2 n3 m : ℕ) → 0 < n1 → 0 < n2 → 0 < n3 → 0 < m → InWords v.tank height (gross_at v.tank height) n1 n2 n3 m
  slabs_taken every n1 n2 n3 m p q r s =
      in_words v.tank _ _ (cuts n1 n2 n3 m) ((every i counted).slabs (cuts n1 n2 n3 m) (some_slabs n1 n2 n3 m p q r s))
