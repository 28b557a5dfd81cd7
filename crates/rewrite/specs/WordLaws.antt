-- The number at a byte of bytes that are put together: in the first part, behind it, in a part taken out of a file, in zeros, and where a
-- number's own bytes stand. Assumes nothing.
use Rattle.std.specs.Prelude.{ℕ, zero, suc, ◌+◌, ◌*◌, ◌/◌, ◌^◌, ◌≤◌, ◌%◌, ◌<◌, ◌≡◌, refl, List, [], ◌∷◌, ◌++◌, length, get_or, take, drop, replicate}
use Rattle.std.proofs.Common.{◌∙◌, ap, arith, get_or-append-add, get_or-take, get_or-drop}
use Rattle.std.proofs.Math.Numerals.{unary_clauses}
use Rattle.std.proofs.lemmas.List.{length-replicate, get_or-replicate}
use Rattle.std.proofs.Math.ListN.{get_or-append, get_or-eq_default}
use Rattle.laws.specs.OrderLaws.{by_order}
use Rattle.file.specs.Word.{word, word_bytes, bytes_of}

-- four bytes that agree give the same number
word_by_bytes : (s t : List ℕ) (a b : ℕ) → ((k : ℕ) → k < 4 → get_or s (a + k) 0 ≡ get_or t (b + k) 0) → word s a ≡ word t b
unfolding word
word_by_bytes s t a b bytes =
    let first : get_or s a 0 ≡ get_or t b 0 = simp unary_clauses at (bytes 0 (omega arith)) in
    rw (first, bytes 1 (omega arith), bytes 2 (omega arith), bytes 3 (omega arith))

pub word_front : (xs ys : List ℕ) (at : ℕ) → at + 4 ≤ length xs → word (xs ++ ys) at ≡ word xs at
word_front xs ys at inside = word_by_bytes (xs ++ ys) xs at at (λ k l. get_or-append xs ys 0 (at + k) (omega arith))

pub word_behind : (xs ys : List ℕ) (n at : ℕ) → length xs ≡ n → word (xs ++ ys) (n + at) ≡ word ys at
word_behind xs ys n at long =
    word_by_bytes (xs ++ ys) ys (n + at) at
    (λ k l. let there : n + at + k ≡ length xs + (at + k) = omega arith in rw there (get_or-append-add xs ys (at + k) 0))

pub word_of_part : (s : List ℕ) (offset n at : ℕ) → at + 4 ≤ n → word (take n (drop offset s)) at ≡ word s (offset + at)
word_of_part s offset n at inside =
    word_by_bytes (take n (drop offset s)) s at (offset + at)
    (λ k l.
    let there : offset + at + k ≡ offset + (at + k) = omega arith in
    rw there (get_or-take n (drop offset s) (at + k) 0 (omega arith) ∙ get_or-drop offset s (at + k) 0))

pub word_of_zeros : (n at : ℕ) → word (replicate n 0) at ≡ 0
unfolding word
word_of_zeros n at = omega (arith, zeros at, zeros (at + 1), zeros (at + 2), zeros (at + 3))
  where
    zeros : (i : ℕ) → get_or {A = ℕ} (replicate n 0) i 0 ≡ 0
    zeros i = by_order n i (λ l. get_or-eq_default (replicate n 0) 0 (rw length-replicate l)) (λ l. get_or-replicate n i 0 0 l)

pub word_of_bytes : (n : ℕ) (ys : List ℕ) → n < 2 ^ 32 → word (word_bytes n ++ ys) 0 ≡ n
unfolding word
word_of_bytes n ys small =
    let second : n / 256 ≡ 256 * (n / 65536) + n / 256 % 256 = omega arith in
    let third : n / 65536 ≡ 256 * (n / 16777216) + n / 65536 % 256 = omega arith in
    let fourth : n / 16777216 % 256 ≡ n / 16777216 = omega arith in
    let first : n ≡ 256 * (n / 256) + n % 256 = omega arith in
    rw fourth (omega (arith, first, second, third))

-- number k of several, each of which has its four bytes

abbrev pub EachSmall : List ℕ → Type 0
EachSmall [] = Unit
EachSmall (n ∷ ns) = (n < 2 ^ 32) × EachSmall ns

pub word_of_words : (ns : List ℕ) → EachSmall ns → (k : ℕ) → k < length ns → word (bytes_of ns) (4 * k) ≡ get_or ns k 0
word_of_words [] small k l = absurd (omega arith)
word_of_words (n ∷ ns) small zero l = word_of_bytes n (bytes_of ns) small.0
word_of_words (n ∷ ns) small (suc k) l =
    let there : 4 * suc k ≡ 4 + 4 * k = omega arith in
    ap (word (bytes_of (n ∷ ns))) there ∙ word_behind (word_bytes n) (bytes_of ns) 4 (4 * k) refl ∙ word_of_words ns small.1 k (omega arith)
