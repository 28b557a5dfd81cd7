-- What holds of every row of a table that is made, said outright of the memory that the call writes: the cell is the net row, and
-- condition 3. Assumes nothing.
use Rattle.std.specs.Prelude.{ℕ, ◌<◌, ◌≡◌, List, pos, ◌+ℤ◌, get_or, Result, Ok, Err}
use Rattle.slabs.specs.Slab.{Cut, Some}
use Rattle.tank.specs.Tank.{filled_at}
use Rattle.tank.specs.Condition3.{Condition3}
use Rattle.survey.specs.declared.decode.Survey.{Survey}
use Rattle.rows.specs.Rows.{shares_at, height_of, gross_row, net_row}
use Rattle.table.specs.declared.make.Made.{Made}
use Rattle.table.specs.declared.make.NumberedRefusal.{NumberedRefusal}

-- the cell of row i, as a signed number, is the net row
abbrev pub NetRowAt : Survey → List ℕ → ℕ → Type 0
NetRowAt v table i = pos (get_or table i 0) ≡ net_row v i

-- the gross row is the gross volume at row i's height, and it is the cell plus all deadwood shares there; of it condition 3 is claimed, each
-- part of the tank being cut by itself
pub record Condition3At (v : Survey) (table : List ℕ) (i : ℕ) : Type 0 where
  pub restored : pos (gross_row v i) ≡ pos (get_or table i 0) +ℤ shares_at v (height_of v i)
  pub slabs : (cuts : ℕ → Cut) → ((part : ℕ) → Some (cuts part)) → Condition3 (filled_at v.tank (height_of v i)) (gross_row v i) cuts

-- a claim about a row, of every row of every table that is made
abbrev pub EveryRow : (Survey → List ℕ → ℕ → Type 0) → Survey → Result Made NumberedRefusal → List ℕ → Type 0
EveryRow claim v (Ok made) table = (i : ℕ) → i < made.rows → claim v table i
EveryRow claim v (Err refused) table = Unit {0}
