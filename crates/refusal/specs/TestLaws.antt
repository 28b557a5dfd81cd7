-- Laws of verdicts: over two lists in a row, over tests taken in turn, over items each with tests of its own, and what a verdict that
-- refuses nothing says of every test; and what the tests of a number say. Assumes nothing.
use Rattle.std.specs.Prelude.{ℕ, zero, suc, ◌+◌, ◌-◌, ◌≤◌, ◌<◌, ◌≡◌, refl, Bool, true, false, ◌&&◌, List, [], ◌∷◌, ◌++◌, leb, Ok, Err}
use Rattle.std.proofs.Common.{sym, ◌∙◌, ap₂, lt-suc_self, add-one, arith, leb-true, le-leb}
use Rattle.std.proofs.Math.Nat.{le_step}
use Rattle.laws.specs.Order.{pick}
use Rattle.laws.specs.OrderLaws.{by_order, same_order}
use Rattle.laws.specs.BoolLaws.{true_not_false, both_pass}
use Rattle.laws.specs.Exactly.{Exactly}
use Rattle.refusal.specs.declared.Refusal.{Refusal}
use Rattle.refusal.specs.Test.{Test, test, refusal_of, verdict, items, within, near, first_refusal, Verdict}

pub verdict_append : (ts us : List Test) → verdict (ts ++ us) ≡ first_refusal (verdict ts) (verdict us)
verdict_append [] us = refl
verdict_append (t ∷ ts) us = go t.passes (verdict_append ts us)
  where
    go : (b : Bool) → verdict (ts ++ us) ≡ first_refusal (verdict ts) (verdict us)
        → pick b (verdict (ts ++ us)) (Err (refusal_of t))
        ≡ first_refusal (pick b (verdict ts) (Err (refusal_of t))) (verdict us)
    go true e = e
    go false e = refl

pub passed_last : (v : Verdict) → first_refusal v (Ok tt) ≡ v
passed_last (Ok tt) = refl
passed_last (Err r) = refl

-- tests taken in turn, each behind the verdict so far: the same as all of them behind it
abbrev pub in_turn : Verdict → List Test → Verdict
in_turn v [] = v
in_turn v (t ∷ ts) = in_turn (first_refusal v (verdict (t ∷ []))) ts

pub verdict_in_turn : (v : Verdict) (ts : List Test) → in_turn v ts ≡ first_refusal v (verdict ts)
verdict_in_turn v [] = sym (passed_last v)
verdict_in_turn v (t ∷ ts) = verdict_in_turn (first_refusal v (verdict (t ∷ []))) ts ∙ behind v
  where
    behind : (v : Verdict) → first_refusal (first_refusal v (verdict (t ∷ []))) (verdict ts) ≡ first_refusal v (verdict (t ∷ ts))
    behind (Ok tt) = sym (verdict_append (t ∷ []) ts)
    behind (Err r) = refl

-- one item more: its tests behind the verdict on the items before it
pub verdict_next : (n : ℕ) (f : ℕ → List Test) {v : Verdict} → v ≡ verdict (items n f) → first_refusal v (verdict (f n)) ≡ verdict (items (n + 1) f)
unfolding items
verdict_next n f e = rw (add-one, e) (sym (verdict_append (items n f) (f n)))

-- what a verdict that refuses nothing says: of a test and those behind it, of a list, of two verdicts in a row, of each item

pub refused_not_passed : (r : Refusal) → ◌≡◌ {A = Verdict} (Err r) (Ok tt) → ⊥
refused_not_passed r e = let z : ◌≡◌ {A = ℕ} 0 1 = cc in omega arith

pub passed_pick : (passes : Bool) (v : Verdict) (r : Refusal) → pick passes v (Err r) ≡ Ok tt → (passes ≡ true) × (v ≡ Ok tt)
passed_pick true v r e = (refl, e)
passed_pick false v r e = absurd (refused_not_passed r e)

abbrev pub AllPass : List Test → Type 0
AllPass [] = Unit
AllPass (t ∷ ts) = (t.passes ≡ true) × AllPass ts

pub passed_all : (ts : List Test) → verdict ts ≡ Ok tt → AllPass ts
passed_all [] e = tt
passed_all (t ∷ ts) e =
    let both = passed_pick t.passes (verdict ts) (refusal_of t) e in
    (both.0, passed_all ts both.1)

pub passed_both : (v w : Verdict) → first_refusal v w ≡ Ok tt → (v ≡ Ok tt) × (w ≡ Ok tt)
passed_both (Ok tt) w e = (refl, e)
passed_both (Err r) w e = absurd (refused_not_passed r e)

pub passed_append : (ts us : List Test) → verdict (ts ++ us) ≡ Ok tt → (verdict ts ≡ Ok tt) × (verdict us ≡ Ok tt)
passed_append ts us e = passed_both (verdict ts) (verdict us) (sym (verdict_append ts us) ∙ e)

pub passed_items : (n : ℕ) (f : ℕ → List Test) → verdict (items n f) ≡ Ok tt → (i : ℕ) → i < n → verdict (f i) ≡ Ok tt
unfolding items
passed_items zero f e i h = absurd (omega arith)
passed_items (suc n) f e i h =
    let both = passed_append (items n f) (f n) e in
    by_order n i
    (λ l. let last : i ≡ n = omega arith in rw last both.1)
    (λ l. passed_items n f both.0 i l)

-- of two tests, what the second's refusal says of an answer that neither passing nor the first's refusal says: it is said exactly when the
-- first passes and the second does not
pub second_refused : (P : Verdict → Type 0) (r r' : Refusal) → (P (Ok tt) → ⊥) → (P (Err r) → ⊥) → P (Err r') → (a b : Bool)
    → Exactly (P (verdict (test r.number r.place a r.about ∷ test r'.number r'.place b r'.about ∷ []))) ((a ≡ true) × (b ≡ false))
second_refused P r r' p q h true true = record { only_when = λ e. absurd (p e); whenever = λ e. absurd (true_not_false e.1) }
second_refused P r r' p q h true false = record { only_when = λ e. (refl, refl); whenever = λ e. h }
second_refused P r r' p q h false b = record { only_when = λ e. absurd (q e); whenever = λ e. absurd (true_not_false (sym e.0)) }

-- what tests that pass say of numbers

pub within_pass : (low x high : ℕ) → within low x high ≡ true → (low ≤ x) × (x ≤ high)
within_pass low x high e =
    let both = both_pass (leb low x) (leb x high) e in
    (leb-true low x both.0, leb-true x high both.1)

-- two numbers are near exactly when they differ by no more, whichever is the larger: of naturals one of the two differences is 0
pub near_difference : (x y most d : ℕ) → d ≡ (x - y) + (y - x) → near x y most ≡ leb d most
near_difference x y most d e =
    by_order x y
    (λ l. rw (le-leb x (y + most) (omega arith), both_true (leb y (x + most))) (same_order y (x + most) d most (λ k. omega arith) (λ k. omega arith)))
    (λ l. rw (le-leb y (x + most) (omega arith)) (same_order x (y + most) d most (λ k. omega arith) (λ k. omega arith)))
  where
    both_true : (b : Bool) → b && true ≡ b
    both_true true = refl
    both_true false = refl

-- .. and when the one is within limits around the other
pub near_within : (x y most : ℕ) → near x y most ≡ within (y - most) x (y + most)
near_within x y most = rw (same_order y (x + most) (y - most) x (λ k. omega arith) (λ k. omega arith))

-- tests that all pass refuse nothing
pub all_passed : (n : ℕ) (f : ℕ → List Test) → ((i : ℕ) → i < n → verdict (f i) ≡ Ok tt) → verdict (items n f) ≡ Ok tt
unfolding items
all_passed zero f each = refl
all_passed (suc n) f each =
    verdict_append (items n f) (f n) ∙ rw (all_passed n f (λ i l. each i (omega arith)), each n (omega arith))

-- items that agree have the same tests
pub items_agree : (n : ℕ) (f g : ℕ → List Test) → ((i : ℕ) → i < n → f i ≡ g i) → items n f ≡ items n g
unfolding items
items_agree zero f g h = refl
items_agree (suc n) f g h = ap₂ ◌++◌ (items_agree n f g (λ i l. h i (le_step l))) (h n (lt-suc_self n))

-- tests in a row as `?` takes them: the refusal of those before, or what those behind come to

pub refused_before : (ts us : List Test) (r : Refusal) → verdict ts ≡ Err r → verdict (ts ++ us) ≡ Err r
refused_before ts us r e = rw (verdict_append ts us, e)

pub passed_before : (ts us : List Test) → verdict ts ≡ Ok tt → verdict (ts ++ us) ≡ verdict us
passed_before ts us e = rw (verdict_append ts us, e)

-- .. of items, as a loop takes them

pub passed_next : (n : ℕ) (f : ℕ → List Test) → verdict (items n f) ≡ Ok tt → verdict (f n) ≡ Ok tt → verdict (items (n + 1) f) ≡ Ok tt
unfolding items
passed_next n f e h = rw (add-one, verdict_append (items n f) (f n), e, h)

pub refused_next : (i n : ℕ) (f : ℕ → List Test) (r : Refusal) → i < n → verdict (items i f) ≡ Ok tt → verdict (f i) ≡ Err r → verdict (items n f) ≡ Err r
unfolding items
refused_next i zero f r l e h = absurd (omega arith)
refused_next i (suc n) f r l e h =
    by_order n i
    (λ k. let last : i ≡ n = omega arith in rw (verdict_append (items n f) (f n), ← last, e, h))
    (λ k. refused_before (items n f) (f n) r (refused_next i n f r k e h))
