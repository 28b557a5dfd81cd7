-- Laws of a text of lines: each line is its sentence; and by the places of the text, passing lines and filling in a line. Assumes nothing.
use Rattle.std.specs.Prelude.{ℕ, zero, suc, ◌+◌, ◌-◌, ◌≤◌, ◌<◌, ◌≡◌, refl, Bool, true, false, ◌&&◌, List, [], ◌∷◌, ◌++◌, eqb, length, get_or, drop}
use Prim.Native.Char.{code}
use Prim.Native.String.{String}
use Rattle.std.proofs.Common.{sym, ◌∙◌, ap, add-one, arith, eq-eqb, ne_eqb, drop_of_length-le, drop-cons}
use Rattle.laws.specs.Order.{pick}
use Rattle.laws.specs.BoolLaws.{true_not_false, both_pass}
use Rattle.refusal.specs.declared.About.{About}
use Rattle.text.specs.Ascii.{ascii}
use Rattle.sentences.specs.Blanks.{filled_in, filled}
use Rattle.sentences.specs.Text.{lines, behind_lines, first_line}

pub not_picked : (a b : Bool) → pick a false b ≡ true → (a ≡ false) × (b ≡ true)
not_picked true b e = absurd (true_not_false (sym e))
not_picked false b e = (refl, e)

-- sentences without line ends

abbrev pub plain : List ℕ → Bool
plain [] = true
plain (b ∷ s) = pick (eqb b (code "\n")) false (plain s)

abbrev pub all_plain : List String → Bool
all_plain [] = true
all_plain (s ∷ ss) = plain (ascii s) && all_plain ss

behind_first : (n : ℕ) (s t : List ℕ) → plain s ≡ true → behind_lines (suc n) ((s ++ ascii "\n") ++ t) ≡ behind_lines n t
unfolding behind_lines
behind_first n [] t e = refl
behind_first n (b ∷ s) t e = let own = not_picked (eqb b (code "\n")) (plain s) e in rw own.0 (behind_first n s t own.1)

first_is : (s t : List ℕ) → plain s ≡ true → first_line ((s ++ ascii "\n") ++ t) ≡ s
unfolding first_line
first_is [] t e = refl
first_is (b ∷ s) t e = let own = not_picked (eqb b (code "\n")) (plain s) e in rw own.0 (ap (λ (l : List ℕ). b ∷ l) (first_is s t own.1))

pub line_is : (n : ℕ) (ss : List String) → all_plain ss ≡ true → first_line (behind_lines n (lines ss)) ≡ ascii (get_or ss n "")
unfolding behind_lines first_line
line_is zero [] e = refl
line_is (suc n) [] e = refl
line_is zero (s ∷ ss) e = first_is (ascii s) (lines ss) (both_pass (plain (ascii s)) (all_plain ss) e).0
line_is (suc n) (s ∷ ss) e =
    let both = both_pass (plain (ascii s)) (all_plain ss) e in
    ap first_line (behind_first n (ascii s) (lines ss) both.0) ∙ line_is n ss both.1

-- how many lines are to be passed behind a byte
abbrev pub lines_left : (lines b : ℕ) → ℕ
lines_left lines b = pick (eqb b (code "\n")) (lines - 1) lines

pub behind_none : (lines : ℕ) (t : List ℕ) → lines ≡ 0 → behind_lines lines t ≡ t
unfolding behind_lines
behind_none zero t h = refl
behind_none (suc lines) t h = absurd (omega arith)

pub behind_ended : (lines : ℕ) (t : List ℕ) (i : ℕ) → length t ≤ i → behind_lines lines (drop i t) ≡ drop i t
unfolding behind_lines
behind_ended zero t i h = refl
behind_ended (suc lines) t i h = rw (drop_of_length-le t h)

pub behind_byte : (lines : ℕ) (t : List ℕ) (i : ℕ) → 0 < lines → i < length t
    → behind_lines lines (drop i t) ≡ behind_lines (lines_left lines (get_or t i 0)) (drop (i + 1) t)
unfolding behind_lines
behind_byte zero t i some inside = absurd (omega arith)
behind_byte (suc lines) t i some inside =
    let less : suc lines - 1 ≡ lines = omega arith in
    rw (drop-cons t i 0 inside, add-one, less) (by_byte (eqb (get_or t i 0) (code "\n")))
  where
    by_byte : (b : Bool) → pick b (behind_lines lines (drop (suc i) t)) (behind_lines (suc lines) (drop (suc i) t)) ≡ behind_lines (pick b lines (suc lines)) (drop (suc i) t)
    by_byte true = refl
    by_byte false = refl

-- the first line of what stands from a place on, filled in
abbrev pub line_from : About → List ℕ → ℕ → List ℕ
line_from x t i = filled x (first_line (drop i t))

pub line_none : (x : About) (t : List ℕ) (i : ℕ) → length t ≤ i → line_from x t i ≡ []
unfolding first_line filled
line_none x t i h = rw (drop_of_length-le t h)

pub line_ended : (x : About) (t : List ℕ) (i : ℕ) → i < length t → get_or t i 0 ≡ code "\n" → line_from x t i ≡ []
unfolding first_line filled
line_ended x t i inside e = rw (drop-cons t i 0 inside, eq-eqb (get_or t i 0) (code "\n") e)

pub line_byte : (x : About) (t : List ℕ) (i : ℕ) → i < length t → (get_or t i 0 ≡ code "\n" → ⊥) → line_from x t i ≡ filled_in x (get_or t i 0) ++ line_from x t (i + 1)
unfolding first_line filled
line_byte x t i inside ne = rw (drop-cons t i 0 inside, add-one, ne_eqb (get_or t i 0) (code "\n") ne)
