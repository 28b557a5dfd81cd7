-- The rows of a table that are lent to be said. Assumes nothing.
use Rattle.std.specs.Prelude.{ℕ, List, length}
use Rattle.said.specs.declared.rows.Rows.{Rows}
use Rattle.said.specs.Said.{whole_text}

-- the line of their count, and a line for each
abbrev pub lent_text : Rows → List ℕ
lent_text t = whole_text t.dh t.step t.cells.now (length t.cells.now)
