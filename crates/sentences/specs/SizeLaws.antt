-- No line that says what a test is about has more than `words_size` bytes: a sentence weighs what its bytes weigh, a blank as much as the longest
-- number that can be filled in, and the heaviest sentence leaves room for its line end. Assumes nothing.
use Rattle.std.specs.Prelude.{ℕ, zero, suc, ◌+◌, ◌^◌, ◌≤◌, ◌<◌, ◌≡◌, refl, Bool, true, false, ◌&&◌, List, [], ◌∷◌, eqb, ltb, ℤ, nat_abs, length, get_or}
use Prim.Native.Char.{code}
use Prim.Native.String.{String}
use Rattle.std.proofs.Common.{arith, ltb-true, length-append}
use Rattle.std.specs.Int.Signed.{mag}
use Rattle.laws.specs.Order.{pick}
use Rattle.laws.specs.BoolLaws.{by_test, both_pass}
use Rattle.laws.proofs.SignedLaws.{nat_abs_at_most}
use Rattle.refusal.specs.declared.About.{About}
use Rattle.text.specs.Ascii.{ascii}
use Rattle.text.specs.DigitsLaws.{digits_at_most, digits_of_64, minus_at_most}
use Rattle.text.specs.GroupedLaws.{grouped_of_64}
use Rattle.sentences.specs.Blanks.{signed, filled_in, filled}
use Rattle.sentences.specs.Sentences.{sentences, sentence_of, words, words_line, words_size}

-- the blanks of a sentence

pub record BlanksFit (x : About) : Type 0 where
  pub item : x.item < 2 ^ 32
  pub value : mag x.value < 2 ^ 63
  pub low : mag x.low < 2 ^ 63
  pub high : mag x.high < 2 ^ 63

abbrev pub heaviest_blank : ℕ
heaviest_blank = 27

signed_size : (z : ℤ) → mag z < 2 ^ 63 → length (signed false z) ≤ 20
signed_size z h = simp length-append (omega (arith, minus_at_most z, digits_of_64 (nat_abs z) (omega (arith, nat_abs_at_most z))))

grouped_size : (z : ℤ) → mag z < 2 ^ 63 → length (signed true z) ≤ heaviest_blank
grouped_size z h = simp length-append (omega (arith, minus_at_most z, grouped_of_64 (nat_abs z) (omega (arith, nat_abs_at_most z))))

-- # is the number of a record or row; ~ a number in threes; $, < and > are numbers
unfoldable pub weight : ℕ → ℕ
weight b =
    pick (eqb b (code "#")) 10 (pick (eqb b (code "$")) 20 (pick (eqb b (code "~")) heaviest_blank (pick (eqb b (code "<")) 20 (pick (eqb b (code ">")) 20 1))))

filled_in_size : (x : About) (b : ℕ) → BlanksFit x → length (filled_in x b) ≤ weight b
unfolding filled_in weight
filled_in_size x b fit =
    by_test (eqb b (code "#")) (λ e. rw e (digits_at_most x.item fit.item))
    (λ e. by_test (eqb b (code "$")) (λ f. rw (e, f) (signed_size x.value fit.value))
    (λ f. by_test (eqb b (code "~")) (λ g. rw (e, f, g) (grouped_size x.value fit.value))
    (λ g. by_test (eqb b (code "<")) (λ h. rw (e, f, g, h) (signed_size x.low fit.low))
    (λ h. by_test (eqb b (code ">")) (λ i. rw (e, f, g, h, i) (signed_size x.high fit.high))
    (λ i. rw (e, f, g, h, i) (omega arith))))))

unfoldable pub weigh : List ℕ → ℕ
weigh [] = 0
weigh (b ∷ s) = weight b + weigh s

filled_weighs : (x : About) (s : List ℕ) → BlanksFit x → length (filled x s) ≤ weigh s
unfolding filled weigh
filled_weighs x [] fit = omega arith
filled_weighs x (b ∷ s) fit = rw length-append (omega (arith, filled_in_size x b fit, filled_weighs x s fit))

-- sentences that all leave room for a line end
abbrev pub all_light : List String → Bool
all_light [] = true
all_light (s ∷ ss) = ltb (weigh (ascii s)) words_size && all_light ss

each_light : (n : ℕ) (ss : List String) → all_light ss ≡ true → weigh (ascii (get_or ss n "")) < words_size
unfolding weigh
each_light n [] e = omega arith
each_light zero (s ∷ ss) e = ltb-true (weigh (ascii s)) words_size (both_pass (ltb (weigh (ascii s)) words_size) (all_light ss) e).0
each_light (suc n) (s ∷ ss) e = each_light n ss (both_pass (ltb (weigh (ascii s)) words_size) (all_light ss) e).1

sentences_light : all_light sentences ≡ true
unfolding weight weigh sentences
sentences_light = refl

pub words_short : (x : About) → BlanksFit x → length (words x) < words_size
unfolding words
words_short x fit = omega (arith, filled_weighs x (sentence_of x.sentence) fit, each_light x.sentence sentences sentences_light)

pub words_line_size : (x : About) → length (words x) < words_size → length (words_line x) ≤ words_size
unfolding words_line
words_line_size x short = rw length-append (omega arith)
