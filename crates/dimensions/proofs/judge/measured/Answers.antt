-- `dimensions::judge::measured` meets its contract: the sums are the definition's, and so are the tests made of them. Assumes nothing.
use Rattle.std.specs.Prelude.{Ok, Err}
use Rattle.std.proofs.Common.{rules, arith, List, [], ◌∷◌, ◌++◌, ◌≡◌, refl, sym, ◌∙◌, ap, ℕ}
use Rattle.std.proofs.lemmas.Result.{err_from_is_err_and}
use Rattle.measure.specs.Quantity.{diameter, diameter_units}
use Rattle.refusal.specs.declared.Refusal.{Refusal}
use Rattle.refusal.specs.Test.{Test, verdict}
use Rattle.refusal.specs.TestLaws.{refused_before, passed_before}
use Rattle.heads.specs.Kind.{kind_of}
use Rattle.file.specs.declared.format.Format.{Format}
use Rattle.file.specs.Word.{word}
use Rattle.file.specs.Layout.{kind_at, dh_at, l1_at, l3_at}
use Rattle.readings.specs.FitLaws.{as_they_stand}
use Rattle.numbers.specs.FitLaws.{dh_fits, shell_fits}
use Rattle.dimensions.specs.declared.dimensions.Diameters.{Diameters}
use Rattle.dimensions.specs.Dimensions.{sums_of, d1, d2}
use Rattle.dimensions.specs.SumLaws.{file_sums_fit}
use Rattle.dimensions.specs.Tests.{lengths_test, diameter_tests, head_length_test, dimension_tests}
use Rattle.dimensions.specs.Judged.{diameters_judged, judged_by}
use Rattle.dimensions.specs.JudgedLaws.{told_refused, told_found}
use Rattle.dimensions.proofs.judge.measured.Goals as goal

-- refusals 7, and 14
abbrev sevens : Format → List ℕ → List Test
sevens f s = diameter_tests (word s dh_at) (d1 f s) (d2 f s)

abbrev caps : Format → List ℕ → List Test
caps f s = head_length_test (kind_of (word s kind_at)) (d2 f s) (word s l3_at) ∷ []

module _ (f : Format) (s : List ℕ) where
  at_lengths : (r : Refusal) → Err r ≡ verdict (lengths_test (sums_of f s) (word s l1_at) ∷ []) → Err r ≡ judged_by f s (verdict (dimension_tests f s))
  unfolding dimension_tests
  at_lengths r e = ap (judged_by f s) (sym (refused_before (lengths_test (sums_of f s) (word s l1_at) ∷ []) (sevens f s ++ caps f s) r (sym e)))

  module _ (lengths : Ok tt ≡ verdict (lengths_test (sums_of f s) (word s l1_at) ∷ [])) where
    rest : verdict (dimension_tests f s) ≡ verdict (sevens f s ++ caps f s)
    unfolding dimension_tests
    rest = passed_before (lengths_test (sums_of f s) (word s l1_at) ∷ []) (sevens f s ++ caps f s) (sym lengths)

    at_diameters : (r : Refusal) → Err r ≡ diameters_judged s (sums_of f s) → Err r ≡ judged_by f s (verdict (dimension_tests f s))
    at_diameters r e =
        rw (rest, refused_before (sevens f s) (caps f s) r (told_refused f s (verdict (sevens f s)) (sym e))) refl

    module _ (found : Diameters) (is : Ok found ≡ diameters_judged s (sums_of f s)) where
      told : (verdict (sevens f s) ≡ Ok tt) × (found.dh ≡ diameter (word s dh_at)) × (found.d1 ≡ diameter (d1 f s)) × (found.d2 ≡ diameter (d2 f s))
      told = told_found f s (verdict (sevens f s)) (sym is)

      last : verdict (dimension_tests f s) ≡ verdict (caps f s)
      last = rest ∙ passed_before (sevens f s) (caps f s) told.0

      abbrev heads : Test
      heads = head_length_test (kind_of (word s kind_at)) (diameter_units found.d2) (word s l3_at)

      same : verdict (heads ∷ []) ≡ verdict (caps f s)
      same = ap (λ d. verdict (head_length_test (kind_of (word s kind_at)) (diameter_units d) (word s l3_at) ∷ [])) told.3

      at_heads : (r : Refusal) → Err r ≡ verdict (heads ∷ []) → Err r ≡ judged_by f s (verdict (dimension_tests f s))
      at_heads r e = ap (judged_by f s) (e ∙ same ∙ sym last)

      found_judged : Ok tt ≡ verdict (heads ∷ []) → Ok found ≡ judged_by f s (verdict (dimension_tests f s))
      found_judged e = is ∙ ap (judged_by f s) (told.0 ∙ e ∙ same ∙ sym last)

pub lengths_tested-requires : goal.lengths_tested-requires
lengths_tested-requires c =
    let f = c.args.f in
    let s = c.args.s.now in
    let few = (file_sums_fit f s c.requires).0.count in
    let shell = shell_fits f s (as_they_stand f s c.requires) in
    rw (c.word.ensures, c.file_sums-t.ensures.value) (omega (arith, shell, few), omega (arith, shell, few))

pub unwrap-dip_point-requires : goal.unwrap-dip_point-requires
unwrap-dip_point-requires c = search (rules, dh_fits c.args.f c.args.s.now (as_they_stand _ _ c.requires))

pub returns-in_err-lengths_tested : goal.returns-in_err-lengths_tested
returns-in_err-lengths_tested c =
    let p = err_from_is_err_and c.from_residual.result c.from_residual.ensures.1 in
    let a = c.args in
    let told = rw (c.file_sums-t.ensures.value, c.word.ensures) at c.in_err-lengths_tested.ensures in
    rw (p.1, p.2) (at_lengths a.f a.s.now _ told)

pub returns-in_err-found : goal.returns-in_err-found
returns-in_err-found c =
    let p = err_from_is_err_and c.from_residual-in_err-found.result c.from_residual-in_err-found.ensures.1 in
    let a = c.args in
    let lengths = rw (c.file_sums-t.ensures.value, c.word.ensures) at c.in_ok-lengths_tested.ensures in
    let told = rw c.file_sums-t.ensures.value at c.in_err-found.ensures in
    rw (p.1, p.2) (at_diameters a.f a.s.now lengths _ told)

pub returns-in_err-heads_in : goal.returns-in_err-heads_in
returns-in_err-heads_in c =
    let p = err_from_is_err_and c.from_residual-in_err-heads_in.result c.from_residual-in_err-heads_in.ensures.1 in
    let a = c.args in
    let lengths = rw (c.file_sums-t.ensures.value, c.word.ensures) at c.in_ok-lengths_tested.ensures in
    let is = rw c.file_sums-t.ensures.value at c.in_ok-found.ensures in
    rw (p.1, p.2) (at_heads a.f a.s.now lengths c.in_ok-found.found is _ c.in_err-heads_in.ensures)

pub returns : goal.returns
returns c =
    let a = c.args in
    let lengths = rw (c.file_sums-t.ensures.value, c.word.ensures) at c.in_ok-lengths_tested.ensures in
    let is = rw c.file_sums-t.ensures.value at c.in_ok-found.ensures in
    found_judged a.f a.s.now lengths c.in_ok-found.found is c.in_ok-heads_in.ensures
