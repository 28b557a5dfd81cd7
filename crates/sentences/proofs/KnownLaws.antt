-- What is known of a refusal. Where every test of a list has a number in use and a sentence that is told, so has the refusal that it gives. Its
-- number is never 0, so whoever passes on a refusal's number and gives 0 met none, and never 10, which is retired. Assumes nothing.
use Rattle.std.specs.Prelude.{ℕ, ◌≡◌, refl, true, false, List, [], ◌∷◌, Ok, Err}
use Rattle.std.proofs.Common.{sym, ◌∙◌, ap}
use Rattle.laws.specs.BoolLaws.{true_not_false, both_pass}
use Rattle.refusal.specs.declared.Refusal.{Refusal}
use Rattle.refusal.specs.Test.{Test, refusal_of, verdict, in_use, first_refusal, Verdict}
use Rattle.refusal.specs.EachLaws.{Each, refused_each}
use Rattle.sentences.specs.Sentences.{told, words}
use Rattle.sentences.proofs.SentencesLaws.{told_words}
use Rattle.sentences.specs.KnownLaws.{is_known, Known, KnownIn, all_known}

pub known_words : (r : Refusal) → Known r → words r.about ≡ [] → ⊥
known_words r k = told_words r.about (both_pass (in_use r.number) (told r.about.sentence) k).1

pub each_known : (ts : List Test) → all_known ts ≡ true → Each Known ts
each_known [] all = tt
each_known (t ∷ ts) all = let both = both_pass (is_known (refusal_of t)) (all_known ts) all in (both.0, each_known ts both.1)

pub verdict_known : (ts : List Test) → Each Known ts → KnownIn (verdict ts)
verdict_known ts each = by_verdict (verdict ts) refl
  where
    by_verdict : (v : Verdict) → verdict ts ≡ v → KnownIn v
    by_verdict (Ok tt) e = tt
    by_verdict (Err r) e = refused_each Known ts each r e

pub first_known : (v w : Verdict) → KnownIn v → KnownIn w → KnownIn (first_refusal v w)
first_known (Ok tt) w p q = q
first_known (Err r) w p q = p

-- `number` is what an answer made of a verdict tells: of a refusal, its number. So a number that is not in use tells that nothing was refused
pub unused_is_passed : (number : Verdict → ℕ) → ((r : Refusal) → number (Err r) ≡ r.number) → (n : ℕ) → in_use n ≡ false
    → (v : Verdict) → KnownIn v → number v ≡ n → v ≡ Ok tt
unused_is_passed number passed_on n unused (Ok tt) p e = refl
unused_is_passed number passed_on n unused (Err r) p e =
    let both = both_pass (in_use r.number) (told r.about.sentence) p in
    absurd (true_not_false (sym both.0 ∙ ap in_use (sym (passed_on r) ∙ e) ∙ unused))
