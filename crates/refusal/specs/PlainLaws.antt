-- A verdict's number and place alone: what an answer keeps of it. Verdicts that differ in nothing but what they are about are the same then.
-- Assumes nothing.
use Rattle.std.specs.Prelude.{◌≡◌, refl, Bool, true, false, List, ◌++◌, Ok, Err}
use Rattle.std.proofs.Common.{ap, ap₂}
use Rattle.laws.specs.Order.{pick}
use Rattle.refusal.specs.declared.Refusal.{Refusal}
use Rattle.refusal.specs.Test.{Test, about, refusal, verdict, first_refusal, Verdict}
use Rattle.refusal.specs.TestLaws.{verdict_append}

abbrev pub plain_refusal : Refusal → Refusal
plain_refusal r = refusal r.number r.place (about 0 0 0 0 0)

abbrev pub plain : Verdict → Verdict
plain (Ok tt) = Ok tt
plain (Err r) = Err (plain_refusal r)

pub plain_first : (v w : Verdict) → plain (first_refusal v w) ≡ first_refusal (plain v) (plain w)
plain_first (Ok tt) w = refl
plain_first (Err r) w = refl

-- lists of tests in a row
pub plain_append : (ts us ts' us' : List Test) → plain (verdict ts) ≡ plain (verdict ts') → plain (verdict us) ≡ plain (verdict us')
    → plain (verdict (ts ++ us)) ≡ plain (verdict (ts' ++ us'))
plain_append ts us ts' us' p q =
    rw (verdict_append ts us, verdict_append ts' us', plain_first (verdict ts) (verdict us), plain_first (verdict ts') (verdict us')) (ap₂ first_refusal p q)

-- a test and those behind it
pub plain_pick : (passes : Bool) (v v' : Verdict) (r r' : Refusal) → plain v ≡ plain v' → plain_refusal r ≡ plain_refusal r'
    → plain (pick passes v (Err r)) ≡ plain (pick passes v' (Err r'))
plain_pick true v v' r r' p q = p
plain_pick false v v' r r' p q = ap Err q
