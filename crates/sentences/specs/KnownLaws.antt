-- What is known of a refusal. Where every test of a list has a number in use and a sentence that is told, so has the refusal that it gives. Its
-- number is never 0, so whoever passes on a refusal's number and gives 0 met none, and never 10, which is retired. Assumes nothing.
use Rattle.std.specs.Prelude.{◌≡◌, Bool, true, ◌&&◌, List, [], ◌∷◌, Ok, Err}
use Rattle.refusal.specs.declared.Refusal.{Refusal}
use Rattle.refusal.specs.Test.{Test, refusal_of, in_use, Verdict}
use Rattle.sentences.specs.Sentences.{told}

abbrev pub is_known : Refusal → Bool
is_known r = in_use r.number && told r.about.sentence

-- a refusal has a number in use and a sentence that is told ..
abbrev pub Known : Refusal → Type 0
Known r = is_known r ≡ true

-- .. and so has a verdict, if it refuses
abbrev pub KnownIn : Verdict → Type 0
KnownIn (Ok tt) = Unit
KnownIn (Err r) = Known r

-- tests whose numbers and sentences are written out: that each is known is computed
abbrev pub all_known : List Test → Bool
all_known [] = true
all_known (t ∷ ts) = is_known (refusal_of t) && all_known ts
