-- Laws of tests over the numbers below a bound: what `every` says of each number, and that `least` is the only number of which the
-- test holds and of none below it. Assumes nothing.
use Rattle.std.specs.Prelude.{ℕ, zero, suc, ◌≤◌, ◌<◌, ◌≡◌, refl, Bool, true, false}
use Rattle.std.proofs.Common.{sym, ◌∙◌, ap, arith}
use Rattle.laws.specs.Order.{pick}
use Rattle.laws.specs.OrderLaws.{by_order}
use Rattle.laws.specs.BoolLaws.{true_not_false, by_test, both_pass}
use Rattle.laws.specs.Search.{every, least}

pub every_none : (p : ℕ → Bool) → every 0 p ≡ true
unfolding every
every_none p = refl

pub every_more : (n : ℕ) (p : ℕ → Bool) → every n p ≡ true → p n ≡ true → every (suc n) p ≡ true
unfolding every
every_more n p all next = rw (all, next)

pub every_each : (n : ℕ) (p : ℕ → Bool) → ((i : ℕ) → i < n → p i ≡ true) → every n p ≡ true
every_each zero p each = every_none p
every_each (suc n) p each = every_more n p (every_each n p (λ i l. each i (omega arith))) (each n (omega arith))

pub every_at : (n : ℕ) (p : ℕ → Bool) → every n p ≡ true → (i : ℕ) → i < n → p i ≡ true
unfolding every
every_at zero p all i l = absurd (omega arith)
every_at (suc n) p all i l =
    by_order n i
    (λ m. let last : i ≡ n = omega arith in ap p last ∙ (both_pass (every n p) (p n) all).1)
    (λ m. every_at n p (both_pass (every n p) (p n) all).0 i m)

pub every_not : (n : ℕ) (p : ℕ → Bool) (i : ℕ) → i < n → p i ≡ false → every n p ≡ false
every_not n p i l fails = by_test (every n p) (λ all. absurd (true_not_false (sym (every_at n p all i l) ∙ fails))) (λ e. e)

least_kept : (n : ℕ) (p : ℕ → Bool) → p (least n p) ≡ true → least (suc n) p ≡ least n p
unfolding least
least_kept n p e = ap (λ b. pick b (least n p) (suc n)) e

least_next : (n : ℕ) (p : ℕ → Bool) → p (least n p) ≡ false → least (suc n) p ≡ suc n
unfolding least
least_next n p e = ap (λ b. pick b (least n p) (suc n)) e

pub least_at_most : (n : ℕ) (p : ℕ → Bool) → least n p ≤ n
unfolding least
least_at_most zero p = omega arith
least_at_most (suc n) p =
    by_test (p (least n p))
    (λ e. rw (least_kept n p e) (omega (arith, least_at_most n p)))
    (λ e. rw (least_next n p e) (omega arith))

-- where p holds of some number, it holds of the least ..
pub least_holds : (n : ℕ) (p : ℕ → Bool) (k : ℕ) → k ≤ n → p k ≡ true → p (least n p) ≡ true
unfolding least
least_holds zero p k l h = let bottom : k ≡ 0 = omega arith in rw bottom at h
least_holds (suc n) p k l h =
    by_test (p (least n p))
    (λ e. rw (least_kept n p e) e)
    (λ e.
    rw (least_next n p e)
    (by_order k n (λ m. absurd (true_not_false (sym (least_holds n p k m h) ∙ e))) (λ m. let top : k ≡ suc n = omega arith in rw top at h)))

-- .. and of none below it
pub least_first : (n : ℕ) (p : ℕ → Bool) (j : ℕ) → j < least n p → p j ≡ false
unfolding least
least_first zero p j l = absurd (omega arith)
least_first (suc n) p j l =
    by_test (p (least n p))
    (λ e. least_first n p j (rw (least_kept n p e) at l))
    (λ e.
    by_test (p j)
    (λ h. absurd (true_not_false (sym (least_holds n p j (omega (arith, rw (least_next n p e) at l)) h) ∙ e)))
    (λ f. f))

-- it is the only number with these two
pub least_unique : (n : ℕ) (p : ℕ → Bool) (h : ℕ) → h ≤ n → p h ≡ true → ((j : ℕ) → j < h → p j ≡ false) → least n p ≡ h
least_unique n p h l holds first =
    by_order (least n p) h
    (λ m. by_order h (least n p) (λ m'. omega arith) (λ m'. absurd (true_not_false (sym (least_holds n p h l holds) ∙ first (least n p) m'))))
    (λ m. absurd (true_not_false (sym holds ∙ least_first n p h m)))
