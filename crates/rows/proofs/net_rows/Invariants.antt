-- `rows::net_rows` meets its contract. The loop's invariant: the filling has not passed the next row's height, and the list
-- holds the net rows so far. Assumes nothing.
use Rattle.laws.specs.FillLaws.{Filled}
use Rattle.tank.specs.FillingLaws.{NotPast}
use Rattle.rows.specs.Rows.{height_of, net_row}
use Rattle.rows.proofs.net_rows.Given as goal

abbrev pub invariant-loop-i : goal.invariant-loop-i
invariant-loop-i l = NotPast l.survey.tank (height_of l.survey l.i) l.filling × Filled l.initial.out (net_row l.survey) l.i l.out
