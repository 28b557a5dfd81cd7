-- What holds of the refusal of each test of a list holds of its verdict's, if it refuses. Assumes nothing.
use Prim.Native.Nat.{ℕ, zero, suc, ◌<◌}
use Rattle.std.specs.Prelude.{◌≡◌, refl, Bool, true, false, List, [], ◌∷◌, ◌++◌, Err}
use Rattle.std.proofs.Common.{arith}
use Rattle.laws.specs.Order.{pick}
use Rattle.refusal.specs.declared.Refusal.{Refusal}
use Rattle.refusal.specs.Test.{Test, refusal_of, verdict, items}

module _ (P : Refusal → Type 0) where
  abbrev pub Each : List Test → Type 0
  Each [] = Unit
  Each (t ∷ ts) = P (refusal_of t) × Each ts

  pub each_append : (ts us : List Test) → Each ts → Each us → Each (ts ++ us)
  each_append [] us p q = q
  each_append (t ∷ ts) us p q = (p.0, each_append ts us p.1 q)

  pub each_item : (n : ℕ) (g : ℕ → List Test) → ((i : ℕ) → i < n → Each (g i)) → Each (items n g)
  unfolding items
  each_item zero g each = tt
  each_item (suc n) g each = each_append (items n g) (g n) (each_item n g (λ i l. each i (omega arith))) (each n (omega arith))

  pub refused_each : (ts : List Test) → Each ts → (r : Refusal) → verdict ts ≡ Err r → P r
  refused_each [] p r e = absurd (let z : ◌≡◌ {A = ℕ} 0 1 = cc in omega arith)
  refused_each (t ∷ ts) p r e = by_pass t.passes (refused_each ts p.1 r) e
    where
      by_pass : (b : Bool) → (verdict ts ≡ Err r → P r) → pick b (verdict ts) (Err (refusal_of t)) ≡ Err r → P r
      by_pass true rest e = rest e
      by_pass false rest e = let same : refusal_of t ≡ r = cc in rw (← same) p.0

-- a refusal with the number of the first test, where no test behind has that, is the first test's
pub first_refused : (t : Test) (ts : List Test) → Each (λ r. r.number ≡ t.number → ⊥) ts → verdict (t ∷ ts) ≡ Err (refusal_of t) → t.passes ≡ false
first_refused t ts others = by_pass t.passes
  where
    by_pass : (b : Bool) → pick b (verdict ts) (Err (refusal_of t)) ≡ Err (refusal_of t) → b ≡ false
    by_pass true e = absurd (refused_each (λ r. r.number ≡ t.number → ⊥) ts others (refusal_of t) e refl)
    by_pass false e = refl
