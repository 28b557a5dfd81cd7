-- Refusals 6, 7 and 14 as an ordered list of tests, each with what it is about: what a file that passes the first five is tested for.
-- Assumes nothing.
use Rattle.std.specs.Prelude.{ℕ, ◌+◌, ◌-◌, ◌/◌, List, [], ◌∷◌}
use Rattle.measure.specs.Diameter.{smallest, largest}
use Rattle.refusal.specs.Test.{Test, about, test, limited}
use Rattle.sentences.specs.Sentences.{of_lengths, of_shell_diameter, of_head_diameter, of_head_length}
use Rattle.heads.specs.declared.kind.HeadKind.{HeadKind}
use Rattle.heads.specs.Kind.{kind_of}
use Rattle.heads.specs.Length.{fits_diameter}
use Rattle.file.specs.declared.format.Format.{Format}
use Rattle.file.specs.Word.{word}
use Rattle.file.specs.Layout.{kind_at, dh_at, l1_at, l3_at}
use Rattle.dimensions.specs.declared.sums.Sums.{Sums}
use Rattle.dimensions.specs.Dimensions.{sums_of, allowance, d1, d2, diameter_fits}

-- refusal 6: the lengths' sum and L1 differ by no more than the allowance, either way
abbrev pub lengths_test : Sums → (l1 : ℕ) → Test
lengths_test t l1 = limited 6 0 of_lengths 0 (l1 - allowance t) t.lengths (l1 + allowance t)

-- refusal 7: a diameter, which is compared with DH
abbrev pub diameter_test : (sentence dh d : ℕ) → Test
diameter_test sentence dh d = test 7 0 (diameter_fits d dh) (about sentence dh d smallest largest)

-- .. D1, and then D2
abbrev pub diameter_tests : (dh d1 d2 : ℕ) → List Test
diameter_tests dh d1 d2 = diameter_test of_shell_diameter dh d1 ∷ diameter_test of_head_diameter dh d2 ∷ []

-- refusal 14: the length of one head, whose limit is half of D2 where the diameter is a limit to it
abbrev pub head_length_test : HeadKind → (d2 l3 : ℕ) → Test
head_length_test kind d2 l3 = test 14 0 (fits_diameter kind d2 l3) (about of_head_length d2 l3 0 (d2 / 2))

-- refusals 6, 7 and 14
unfoldable pub dimension_tests : Format → List ℕ → List Test
dimension_tests f s =
    lengths_test (sums_of f s) (word s l1_at)
    ∷ diameter_test of_shell_diameter (word s dh_at) (d1 f s)
    ∷ diameter_test of_head_diameter (word s dh_at) (d2 f s)
    ∷ head_length_test (kind_of (word s kind_at)) (d2 f s) (word s l3_at)
    ∷ []
