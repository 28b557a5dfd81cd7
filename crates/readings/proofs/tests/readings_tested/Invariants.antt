-- `readings::tests::readings_tested` meets its contract: none of the courses passed is refused. Assumes nothing.
use Rattle.std.specs.Prelude.{Ok}
use Rattle.std.proofs.Common.{◌≡◌}
use Rattle.refusal.specs.Test.{verdict, items}
use Rattle.readings.specs.Reading.{rise_of}
use Rattle.records.specs.Record.{record_of}
use Rattle.readings.specs.Tests.{reading_tests}
use Rattle.readings.proofs.tests.readings_tested.Given as goal

abbrev pub invariant-loop-i : goal.invariant-loop-i
invariant-loop-i l = verdict (items l.i (λ k. reading_tests l.s (record_of l.x k) (rise_of l.f l.s k))) ≡ Ok tt
