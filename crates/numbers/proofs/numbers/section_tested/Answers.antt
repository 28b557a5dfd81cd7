-- `numbers::numbers::section_tested`: the first record that is refused is what the section is refused for. Assumes nothing.
use Rattle.std.proofs.Common.{◌<◌, arith, sym, ap, ap₂, ◌∙◌}
use Rattle.std.proofs.lemmas.Result.{err_from_is_err_and}
use Rattle.refusal.specs.Test.{verdict}
use Rattle.refusal.specs.TestLaws.{refused_next}
use Rattle.records.specs.Record.{record_of}
use Rattle.numbers.specs.Tests.{record_tests}
use Rattle.numbers.proofs.numbers.section_tested.Goals as goal

pub returns-in_err-record_tested : goal.returns-in_err-record_tested
returns-in_err-record_tested c =
    let x = c.args.section in
    let s = c.args.s.now in
    let there : c.loop-i.i < x.count = omega (arith, ap (λ y. y.count) c.section.view_is) in
    let p = err_from_is_err_and c.from_residual.result c.from_residual.ensures.1 in
    let same = ap₂ (λ records y. verdict (record_tests records s y)) (ap (λ y. y.records) c.section.view_is) c.record_of.ensures in
    rw (p.1, p.2)
    (sym (refused_next c.loop-i.i x.count (λ k. record_tests x.records s (record_of x k)) _ there c.loop-i.invariant
    (sym (c.record_tested.ensures ∙ same) ∙ c.in_err-record_tested.was)))
