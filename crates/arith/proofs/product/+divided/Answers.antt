-- `arith::product::divided` meets its contract: the half's quotient and rest, doubled, with `other` once more where the factor
-- is odd. Assumes nothing.
use Rattle.std.proofs.Common.{arith, ◌≡◌, ℕ, ◌+◌, ◌*◌, ◌/◌, ◌%◌}
use Rattle.arith.specs.QuotientLaws.{Divided}
use Rattle.arith.proofs.product.+divided.Goals as goal

-- twice the half's product, and then the whole, from f = 2h + b
twice : (h o : ℕ) {d q s q₂ s₂ : ℕ} → Divided (h * o) d q s → Divided (2 * q * d + s + s) d q₂ s₂ → Divided (2 * h * o) d q₂ s₂
twice h o half doubled = record { whole = omega (arith, half.whole, doubled.whole); proper = doubled.proper }

once_more : (h b o : ℕ) {f d q s q₂ s₂ : ℕ} → 2 * h + b ≡ f → Divided (2 * h * o) d q s → Divided (q * d + s + b * o) d q₂ s₂ → Divided (f * o) d q₂ s₂
once_more h b o e was now = record { whole = rw (← e) (omega (arith, was.whole, now.whole)); proper = now.proper }

pub returns : goal.returns
returns t c =
    let a = c.args in
    let split : 2 * (a.factor / 2) + a.factor % 2 ≡ a.factor = omega arith in
    once_more (a.factor / 2) (a.factor % 2) a.other split (twice (a.factor / 2) a.other c.divided-half.ensures c.carried-doubled.ensures) c.carried.ensures
