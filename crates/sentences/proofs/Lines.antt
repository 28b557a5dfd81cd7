-- The line of a text as the library cuts it, and a sentence that is filled in byte by byte. Assumes nothing.
use Rattle.std.specs.Prelude.{ℕ, zero, suc, ◌≡◌, refl, Bool, List, [], ◌∷◌, ◌++◌, eqb, slice_get}
use Rattle.std.specs.Option.{unwrap_or}
use Rattle.std.specs.List.{slice_split, onto_first}
use Prim.Native.Char.{code}
use Rattle.std.proofs.Common.{sym, ◌∙◌, ap, append-nil, append_assoc}
use Rattle.laws.specs.BoolLaws.{by_test}
use Rattle.refusal.specs.declared.About.{About}
use Rattle.sentences.specs.Blanks.{filled_in, filled}
use Rattle.sentences.specs.Text.{behind_lines, first_line}

abbrev pub is_end : ℕ → Bool
is_end b = eqb b (code "\n")

-- the part n of those between the line ends, or nothing
abbrev pub part : ℕ → List (List ℕ) → List ℕ
part n parts = unwrap_or (slice_get parts n) []

first_onto : (b : ℕ) (parts : List (List ℕ)) → part 0 (onto_first b parts) ≡ b ∷ part 0 parts
first_onto b [] = refl
first_onto b (p ∷ ps) = refl

next_onto : (n b : ℕ) (parts : List (List ℕ)) → part (suc n) (onto_first b parts) ≡ part (suc n) parts
next_onto n b [] = refl
next_onto n b (p ∷ ps) = refl

pub part_is_line : (n : ℕ) (t : List ℕ) → part n (slice_split is_end t) ≡ first_line (behind_lines n t)
unfolding behind_lines first_line
part_is_line zero [] = refl
part_is_line (suc n) [] = refl
part_is_line zero (b ∷ t) =
    by_test (is_end b) (λ e. rw e refl)
    (λ e. rw e (first_onto b (slice_split is_end t) ∙ ap (λ (l : List ℕ). b ∷ l) (part_is_line zero t)))
part_is_line (suc n) (b ∷ t) =
    by_test (is_end b) (λ e. rw e (part_is_line n t))
    (λ e. rw e (next_onto n b (slice_split is_end t) ∙ part_is_line (suc n) t))

-- nothing is filled in yet, and then a byte more
pub filled_none : (x : About) → filled x [] ≡ []
unfolding filled
filled_none x = refl

pub filled_next : (x : About) (s : List ℕ) (b : ℕ) → filled x (s ++ b ∷ []) ≡ filled x s ++ filled_in x b
unfolding filled
filled_next x [] b = append-nil (filled_in x b)
filled_next x (a ∷ s) b = ap (λ (l : List ℕ). filled_in x a ++ l) (filled_next x s b) ∙ sym (append_assoc (filled_in x a) (filled x s) (filled_in x b))
