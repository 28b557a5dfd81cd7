-- What a verdict on rows leaves of a lent table. Assumes nothing.
use Rattle.refusal.specs.Test.{Verdict}
use Rattle.std.specs.Prelude.{ℕ, List, ◌++◌, drop, Ok, Err}
use Rattle.laws.specs.Fill.{rows_of}

-- the cells, then the rest as it was; or all as it was
abbrev pub left_by : Verdict → (ℕ → ℕ) → ℕ → List ℕ → List ℕ
left_by (Ok tt) cell rows table = rows_of cell rows ++ drop rows table
left_by (Err r) cell rows table = table
