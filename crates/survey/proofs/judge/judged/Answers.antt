-- `survey::judge::judged` meets its contract: a test that passes leaves the tests behind it, and each return is at the first that does not. What passed before a test is what its code needs. Assumes nothing.
use Rattle.std.proofs.Common.{◌≡◌, sym, ◌∙◌, ap, List, ◌++◌, ℕ}
use Rattle.std.proofs.lemmas.Result.{err_from_is_err_and}
use Rattle.refusal.specs.Test.{verdict, first_refusal}
use Rattle.refusal.specs.TestLaws.{verdict_append}
use Rattle.file.specs.declared.format.Format.{Format}
use Rattle.form.specs.PlacedLaws.{placed_file}
use Rattle.form.specs.Tests.{size_tests, layout_tests}
use Rattle.readings.specs.Tests.{number_tests}
use Rattle.dimensions.specs.Tests.{dimension_tests}
use Rattle.survey.specs.Tests.{file_tests}
use Rattle.survey.proofs.judge.judged.Goals as goal

-- the lists of the four rooms in a row
behind : (f : Format) (s : List ℕ)
    → verdict (file_tests f s) ≡ first_refusal (verdict (size_tests f s)) (first_refusal (verdict (layout_tests f s)) (first_refusal (verdict (number_tests f s)) (verdict (dimension_tests f s))))
unfolding file_tests
behind f s =
    verdict_append (size_tests f s) (layout_tests f s ++ (number_tests f s ++ dimension_tests f s))
    ∙ ap (first_refusal (verdict (size_tests f s))) (verdict_append (layout_tests f s) (number_tests f s ++ dimension_tests f s)
    ∙ ap (first_refusal (verdict (layout_tests f s))) (verdict_append (number_tests f s) (dimension_tests f s)))

pub returns-in_err-size_tested-clause-value : goal.returns-in_err-size_tested-clause-value
returns-in_err-size_tested-clause-value c =
    let p = err_from_is_err_and c.from_residual.result c.from_residual.ensures.1 in
    rw (p.1, p.2, behind c.args.f c.args.s.now, ← c.in_err-size_tested.ensures.value)

pub returns-in_err-layout_tested-clause-value : goal.returns-in_err-layout_tested-clause-value
returns-in_err-layout_tested-clause-value c =
    let p = err_from_is_err_and c.from_residual-in_err-layout_tested.result c.from_residual-in_err-layout_tested.ensures.1 in
    rw (p.1, p.2, behind c.args.f c.args.s.now, ← c.in_ok-size_tested.ensures.value, ← c.in_err-layout_tested.ensures)

pub numbers_tested-requires : goal.numbers_tested-requires
numbers_tested-requires c =
    placed_file c.args.f c.args.s.now c.in_ok-size_tested.ensures.readable (sym c.in_ok-size_tested.ensures.value) (sym c.in_ok-layout_tested.ensures)

pub returns-in_err-numbers_tested-clause-value : goal.returns-in_err-numbers_tested-clause-value
returns-in_err-numbers_tested-clause-value c =
    let p = err_from_is_err_and c.from_residual-in_err-numbers_tested.result c.from_residual-in_err-numbers_tested.ensures.1 in
    rw (p.1, p.2, behind c.args.f c.args.s.now, ← c.in_ok-size_tested.ensures.value, ← c.in_ok-layout_tested.ensures, ← c.in_err-numbers_tested.ensures)

pub measured-requires : goal.measured-requires
measured-requires c =
    record {
      placed = placed_file c.args.f c.args.s.now c.in_ok-size_tested.ensures.readable (sym c.in_ok-size_tested.ensures.value) (sym c.in_ok-layout_tested.ensures);
      numbers = sym c.in_ok-numbers_tested.ensures;
    }

pub returns-clause-value : goal.returns-clause-value
returns-clause-value c =
    rw (behind c.args.f c.args.s.now, ← c.in_ok-size_tested.ensures.value, ← c.in_ok-layout_tested.ensures, ← c.in_ok-numbers_tested.ensures) c.measured.ensures
