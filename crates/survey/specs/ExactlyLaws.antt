-- Refusals 6 and 14 in document 02's words. 6 (E1): a file that passes refusals 1 to 5 gets it exactly when the sum of the course lengths and L1 differ
-- by more than 100 u for each course. 14 (E2): a file that passes refusals 1 to 7 gets it exactly when its heads are spherical caps and twice their
-- length exceeds D2. Assumes nothing.
use Rattle.std.specs.Prelude.{ℕ, ◌+◌, ◌*◌, ◌-◌, ◌<◌, zero, suc, ◌≡◌, refl, Bool, true, false, List, [], ◌∷◌, ◌++◌, leb, Ok, Err}
use Rattle.std.proofs.Common.{sym, ◌∙◌}
use native.Mathlib.Omega.{arith}
use borrow.Author.Tests.{leb-false, lt-leb, le-leb, leb-true}
use Rattle.laws.specs.Exactly.{Exactly}
use Rattle.laws.specs.Order.{pick}
use Rattle.laws.specs.BoolLaws.{true_not_false}
use Rattle.refusal.specs.Test.{Test, refusal_of, verdict, Verdict, verdict_in}
use Rattle.refusal.specs.TestLaws.{near_difference, refused_not_passed}
use Rattle.refusal.specs.EachLaws.{first_refused}
use Rattle.refusal.specs.declared.Refusal.{Refusal}
use Rattle.heads.specs.Kind.{kind_of, kind_known}
use Rattle.heads.specs.Length.{fits_diameter}
use Rattle.file.specs.declared.format.Format.{Format}
use Rattle.file.specs.Word.{word}
use Rattle.file.specs.Layout.{kind_at, dh_at, l1_at, l3_at}
use Rattle.file.specs.Format.{today}
use Rattle.file.specs.Section.{courses}
use Rattle.file.specs.SectionLaws.{today_readable}
use Rattle.dimensions.specs.declared.sums.Sums.{Sums}
use Rattle.dimensions.specs.Dimensions.{sums_of, allowance, d1, d2, diameter_fits}
use Rattle.dimensions.specs.Tests.{lengths_test, diameter_tests, head_length_test, dimension_tests}
use Rattle.dimensions.specs.TestLaws.{lengths_near}
use Rattle.dimensions.specs.SumLaws.{file_sums}
use Rattle.survey.specs.Survey.{decoded}
use Rattle.survey.specs.DimensionLaws.{FirstFivePass, numbers_pass, decoded_by_dimensions, kind_known_law}

-- by how much the sum of the course lengths misses L1, whichever is the larger
abbrev pub missed : Format → List ℕ → ℕ
missed f s =
    let sum = (sums_of f s).lengths in
    let l1 = word s l1_at in
    (sum - l1) + (l1 - sum)

module _ (s : List ℕ) (e : FirstFivePass today s) where
  tested : (lengths_test (sums_of today s) (word s l1_at)).passes ≡ leb (missed today s) (allowance (sums_of today s))
  tested =
      let t = sums_of today s in
      lengths_near t (word s l1_at) ∙ near_difference t.lengths (word s l1_at) (allowance t) (missed today s) refl

  -- the sums are those of as many courses
  count : (sums_of today s).count ≡ (courses today s).count
  count = (file_sums today s (numbers_pass today s e today_readable)).count

  pub sixth_exactly : Exactly ((verdict_in (decoded s)) ≡ Err (refusal_of (lengths_test (sums_of today s) (word s l1_at)))) (100 * (courses today s).count < missed today s)
  unfolding dimension_tests
  sixth_exactly =
      let most = allowance (sums_of today s) in
      let decides = decoded_by_dimensions s e in
      let heads = head_length_test (kind_of (word s kind_at)) (d2 today s) (word s l3_at) in
      let behind = diameter_tests (word s dh_at) (d1 today s) (d2 today s) ++ (heads ∷ []) in
      let first = first_refused (lengths_test (sums_of today s) (word s l1_at)) behind (λ h. omega arith, (λ h. omega arith, (λ h. omega arith, tt))) in
      record {
        only_when = λ h. omega (arith, count, leb-false (missed today s) most (sym tested ∙ first (sym decides ∙ h)));
        whenever = λ h. decides ∙ rw (tested ∙ lt-leb (missed today s) most (omega (arith, count, h)));
      }

-- lengths that add up to L1 pass, as they did before
pub exact_lengths_fit : (t : Sums) → (lengths_test t t.lengths).passes ≡ true
exact_lengths_fit t = lengths_near t t.lengths ∙ rw (le-leb t.lengths (t.lengths + allowance t) (omega arith))

-- by the number of the kind: no other kind is too long for D2
too_long : (number d l : ℕ) → kind_known number ≡ true → Exactly (fits_diameter (kind_of number) d l ≡ false) ((number ≡ 2) × (d < 2 * l))
unfolding kind_known kind_of
too_long zero d l known = record { only_when = λ h. absurd (true_not_false h); whenever = λ h. absurd (omega (arith, h.0)) }
too_long (suc zero) d l known = record { only_when = λ h. absurd (true_not_false h); whenever = λ h. absurd (omega (arith, h.0)) }
too_long (suc (suc zero)) d l known = record { only_when = λ h. (refl, leb-false (2 * l) d h); whenever = λ h. lt-leb (2 * l) d h.1 }
too_long (suc (suc (suc n))) d l known = absurd (omega (arith, leb-true (suc (suc (suc n))) 2 known))

-- of the last test
refused_last : (b : Bool) (r : Refusal) → ◌≡◌ {A = Verdict} (pick b (Ok tt) (Err r)) (Err r) → b ≡ false
refused_last true r e = absurd (refused_not_passed r (sym e))
refused_last false r e = refl

-- a file that passes refusals 1 to 5, 6, and 7
module _ (s : List ℕ) (first-five : FirstFivePass today s) (lengths : (lengths_test (sums_of today s) (word s l1_at)).passes ≡ true)
    (shell : diameter_fits (d1 today s) (word s dh_at) ≡ true) (heads : diameter_fits (d2 today s) (word s dh_at) ≡ true) where
  abbrev caps : Test
  caps = head_length_test (kind_of (word s kind_at)) (d2 today s) (word s l3_at)

  decides : verdict_in (decoded s) ≡ verdict (caps ∷ [])
  unfolding dimension_tests
  decides = decoded_by_dimensions s first-five ∙ rw (lengths, shell, heads)

  pub fourteenth_exactly : Exactly ((verdict_in (decoded s)) ≡ Err (refusal_of caps)) ((word s kind_at ≡ 2) × (d2 today s < 2 * word s l3_at))
  fourteenth_exactly =
      let exactly = too_long (word s kind_at) (d2 today s) (word s l3_at) (kind_known_law today s first-five) in
      record {
        only_when = λ h. exactly.only_when (refused_last caps.passes (refusal_of caps) (sym decides ∙ h));
        whenever = λ h. decides ∙ rw (exactly.whenever h);
      }
