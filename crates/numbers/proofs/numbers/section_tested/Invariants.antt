-- `numbers::numbers::section_tested` meets its contract: none of the records passed is refused. Assumes nothing.
use Rattle.std.specs.Prelude.{Ok}
use Rattle.std.proofs.Common.{◌≡◌}
use Rattle.refusal.specs.Test.{verdict, items}
use Rattle.records.specs.Record.{record_of}
use Rattle.numbers.specs.Tests.{record_tests}
use Rattle.numbers.proofs.numbers.section_tested.Given as goal

abbrev pub invariant-loop-i : goal.invariant-loop-i
invariant-loop-i l = verdict (items l.i (λ k. record_tests l.section.records l.s (record_of l.section k))) ≡ Ok tt
