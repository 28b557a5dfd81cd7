-- Laws of the sentences: one that is told says something, whatever is filled in; and the words are a line of the text of them all. Assumes nothing.
use Rattle.std.specs.Prelude.{ℕ, ◌≡◌, refl, true, List, [], ◌∷◌, eqb, length}
use Prim.Native.Char.{code}
use Rattle.std.proofs.Common.{sym, ap, arith}
use Rattle.laws.specs.BoolLaws.{true_not_false}
use Rattle.refusal.specs.declared.About.{About}
use Rattle.sentences.specs.Blanks.{filled_in, filled, begun}
use Rattle.sentences.specs.Text.{lines, behind_lines, first_line}
use Rattle.sentences.specs.TextLaws.{not_picked, all_plain, line_is}
use Rattle.sentences.specs.Sentences.{sentences, sentence_of, told, words}

-- a sentence that begins with a byte of its own: that byte stands there
begun_filled : (x : About) (s : List ℕ) → begun s ≡ true → filled x s ≡ [] → ⊥
unfolding filled_in filled
begun_filled x [] e none = true_not_false (sym e)
begun_filled x (b ∷ s) e none =
    let line = not_picked (eqb b (code "\n")) _ e in
    let item = not_picked (eqb b (code "#")) _ line.1 in
    let value = not_picked (eqb b (code "$")) _ item.1 in
    let grouped = not_picked (eqb b (code "~")) _ value.1 in
    let low = not_picked (eqb b (code "<")) _ grouped.1 in
    let high = not_picked (eqb b (code ">")) _ low.1 in
    omega (arith, ap length (rw (item.0, value.0, grouped.0, low.0, high.0) at none))

pub told_words : (a : About) → told a.sentence ≡ true → words a ≡ [] → ⊥
unfolding told words
told_words a = begun_filled a (sentence_of a.sentence)

-- the words are a line of the text of all sentences
sentences_plain : all_plain sentences ≡ true
unfolding sentences
sentences_plain = refl

pub words_line_law : (a : About) → filled a (first_line (behind_lines a.sentence (lines sentences))) ≡ words a
unfolding words
words_line_law a = ap (filled a) (line_is a.sentence sentences sentences_plain)
