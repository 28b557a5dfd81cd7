-- `readings::tests::readings_tested`: the first course that is refused is what the file is refused for. Assumes nothing.
use Rattle.std.proofs.Common.{◌<◌, arith, sym, ap, ap₂, ◌∙◌}
use Rattle.std.proofs.lemmas.Result.{err_from_is_err_and}
use Rattle.refusal.specs.Test.{verdict, items}
use Rattle.refusal.specs.TestLaws.{refused_next}
use Rattle.readings.specs.Reading.{rise_of}
use Rattle.records.specs.Record.{record_of}
use Rattle.readings.specs.Tests.{reading_tests}
use Rattle.readings.proofs.tests.readings_tested.Goals as goal

pub returns-in_err-course_readings_tested : goal.returns-in_err-course_readings_tested
returns-in_err-course_readings_tested c =
    let f = c.args.f in
    let s = c.args.s.now in
    let x = c.courses-x.result in
    let there : c.loop-i.i < x.count = omega (arith, ap (λ y. y.count) c.x.view_is) in
    let p = err_from_is_err_and c.from_residual.result c.from_residual.ensures.1 in
    let same = ap₂ (λ y rise. verdict (reading_tests s y rise)) c.record_of.ensures c.rise_of.ensures in
    let refused = refused_next c.loop-i.i x.count (λ k. reading_tests s (record_of x k) (rise_of f s k)) _ there c.loop-i.invariant
    (sym (c.course_readings_tested.ensures ∙ same) ∙ c.in_err-course_readings_tested.was) in
    rw (p.1, p.2) (sym refused ∙ ap (λ y. verdict (items y.count (λ k. reading_tests s (record_of y k) (rise_of f s k)))) c.courses-x.ensures)
