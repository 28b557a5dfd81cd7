-- Whether a table of readings holds is a computation, which finds a wrong line of each kind. Assumes nothing.
use Rattle.std.specs.Prelude.{◌≡◌, refl, Bool, true, false, ◌&&◌, List, [], ◌∷◌, eqb, ℤ, pos, negsuc}
use Rattle.std.proofs.Common.{sym, ap, eqb-true}
use Rattle.laws.specs.BoolLaws.{true_not_false, both_pass}
use Rattle.cases.specs.Reading.{Reading, ◌reads◌, ◌reads_signed◌, ◌per◌, ◌comes_to◌, Holds}

abbrev same : ℤ → ℤ → Bool
same (pos m) (pos n) = eqb m n
same (negsuc m) (negsuc n) = eqb m n
same (pos m) (negsuc n) = false
same (negsuc m) (pos n) = false

same_is : (y z : ℤ) → same y z ≡ true → y ≡ z
same_is (pos m) (pos n) e = ap pos (eqb-true m n e)
same_is (negsuc m) (negsuc n) e = ap negsuc (eqb-true m n e)
same_is (pos m) (negsuc n) e = absurd (true_not_false (sym e))
same_is (negsuc m) (pos n) e = absurd (true_not_false (sym e))

abbrev pub all_same : List Reading → Bool
all_same [] = true
all_same (r ∷ rs) = same r.given r.said && all_same rs

pub all_hold : (rs : List Reading) → all_same rs ≡ true → Holds rs
all_hold [] e = tt
all_hold (r ∷ rs) e =
    let both = both_pass (same r.given r.said) (all_same rs) e in
    (same_is r.given r.said both.0, all_hold rs both.1)

-- a table that holds says so of its first line and of the rest
pub each_holds : (r : Reading) (rs : List Reading) → Holds (r ∷ rs) → (r.given ≡ r.said) × Holds rs
each_holds r rs holds = holds

-- a line that is wrong is found, of whatever kind it is
pub wrong_found : (all_same ((2 reads 3) ∷ []) ≡ false)
    × ((all_same ((pos 0 reads_signed negsuc 0) ∷ []) ≡ false) × (all_same ((1 per 2 comes_to 499 per 999) ∷ []) ≡ false))
wrong_found = (refl, (refl, refl))
