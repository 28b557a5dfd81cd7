-- A figure is read back as it was written: `figure_of (hundredths n)` is n. Assumes nothing.
use Rattle.std.specs.Prelude.{ℕ, suc, ◌+◌, ◌*◌, ◌/◌, ◌%◌, ◌^◌, ◌≤◌, ◌<◌, ◌≡◌, true, List, [], ◌∷◌, ◌++◌, length, Some}
use Prim.Native.Char.{code}
use Rattle.std.proofs.Common.{◌∙◌, ap, ap₂, append_assoc, arith, le-leb, lt-ltb, length-append}
use Rattle.laws.specs.OrderLaws.{by_order, pick_le}
use Rattle.text.specs.Ascii.{ascii}
use Rattle.text.specs.Digits.{digit_of, digits, hundredths}
use Rattle.text.specs.DigitsLaws.{digits_one, digits_more, by_digits, length_digits}
use Rattle.figures.specs.Figures.{is_digit, value_of, most_digits, largest_figure, figure_from, figure_of}
use Rattle.figures.specs.FiguresLaws.{ended_some}

digit_is : (d : ℕ) → d < 10 → is_digit (digit_of d) ≡ true
digit_is d h = rw (le-leb (code "0") (digit_of d) (omega arith), le-leb (digit_of d) (code "9") (omega arith))

digit_says : (d : ℕ) → value_of (digit_of d) ≡ d
digit_says d = omega arith

-- a digit in front is read ..
digit_read : (count whole d : ℕ) (s : List ℕ) → d < 10 → count < most_digits → figure_from count whole (digit_of d ∷ s) ≡ figure_from (suc count) (10 * whole + d) s
unfolding figure_from
digit_read count whole d s h l = rw (digit_is d h, lt-ltb count most_digits l, digit_says d)

-- .. and so are all of a number
abbrev Read : ℕ → Type 0
Read n = length (digits n) ≤ most_digits → (s : List ℕ) → figure_from 0 0 (digits n ++ s) ≡ figure_from (length (digits n)) n s

digits_read : (n : ℕ) → Read n
digits_read = by_digits Read one more
  where
    one : (n : ℕ) → n < 10 → Read n
    one n h l s =
        rw (digits_one n h)
        (digit_read 0 0 (n % 10) s (omega arith) (omega arith)
        ∙ ap (λ (w : ℕ). figure_from 1 w s) {x = 10 * 0 + n % 10} {y = n} (omega arith))

    more : (n : ℕ) → 9 < n → Read (n / 10) → Read n
    more n h tenth l s =
        let size = simp length-append at (ap length (digits_more n h)) in
        rw (digits_more n h, append_assoc)
        (tenth (omega arith) (digit_of (n % 10) ∷ s)
        ∙ digit_read (length (digits (n / 10))) (n / 10) (n % 10) s (omega arith) (omega arith)
        ∙ ap₂ (λ (c w : ℕ). figure_from c w s) (rw length-append (omega arith)) (omega arith))

some_digit : (n : ℕ) → 0 < length (digits n)
some_digit n = by_order n 9 (λ l. rw (digits_one n (omega arith)) (omega arith)) (λ l. rw (digits_more n l, length-append) (omega arith))

pub read_back : (n : ℕ) → n < 2 ^ 32 → figure_of (hundredths n) ≡ Some n
unfolding figure_of figure_from hundredths
read_back n h =
    let m = n / 100 in
    let t = n / 10 % 10 in
    let e = n % 10 in
    let rest : List ℕ = ascii "." ++ digit_of t ∷ digit_of e ∷ [] in
    let all : 100 * m + 10 * t + e ≡ n = omega arith in
    simp append_assoc
    (digits_read m (length_digits 7 m (omega arith)) rest
    ∙ ended_some (length (digits m)) m rest (some_digit m)
    ∙ rw (digit_is t (omega arith), digit_is e (omega arith), digit_says t, digit_says e, all)
    (pick_le {m = n} {n = largest_figure} _ _ (omega arith)))
