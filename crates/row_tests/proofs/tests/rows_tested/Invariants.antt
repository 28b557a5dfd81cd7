-- `row_tests::tests::rows_tested` meets its contract. The loop's invariant: no row passed falls. Assumes nothing.
use Rattle.std.proofs.Common.{◌≡◌}
use Rattle.std.specs.Prelude.{Ok}
use Rattle.refusal.specs.Test.{verdict, items}
use Rattle.schedule.specs.Rows.{row_height}
use Rattle.rows.specs.RowLaws.{net_of}
use Rattle.row_tests.specs.Tests.{fall_test}
use Rattle.row_tests.proofs.tests.rows_tested.Given as goal

abbrev pub invariant-loop-i : goal.invariant-loop-i
invariant-loop-i l = verdict (items l.i (fall_test (net_of l.net) (row_height l.schedule.dh l.schedule.step))) ≡ Ok tt
