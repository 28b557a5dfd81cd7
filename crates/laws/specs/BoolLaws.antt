-- Laws of tests: their two values differ, one goes by what a test says, and two that pass together pass each. Assumes nothing.
use Rattle.std.specs.Prelude.{ℕ, ◌≡◌, refl, Bool, true, false, ◌&&◌}
use Rattle.std.proofs.Common.{sym, arith}

pub true_not_false : true ≡ false → ⊥
true_not_false h = let z : ◌≡◌ {A = ℕ} 0 1 = cc in omega arith

pub by_test {ℓ} : {A : Type ℓ} (b : Bool) → (b ≡ true → A) → (b ≡ false → A) → A
by_test true f g = f refl
by_test false f g = g refl

pub both_pass : (a b : Bool) → a && b ≡ true → (a ≡ true) × (b ≡ true)
both_pass true b e = (refl, e)
both_pass false b e = absurd (true_not_false (sym e))
