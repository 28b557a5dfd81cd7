-- Splitting on an order of two numbers, and what is picked by one: the one place where a law goes by cases. Assumes nothing.
use Rattle.std.specs.Prelude.{ℕ, zero, suc, ◌*◌, ◌≤◌, ◌<◌, ◌≡◌, leb}
use Rattle.std.proofs.Math.Decide.{dec_le}
use Rattle.std.proofs.Common.{lt_of_not-le, not-le_of_lt, mul-le-mul, arith, le-leb}
use Rattle.std.proofs.lemmas.Bool.{lt-leb}
use Rattle.laws.specs.Order.{pick}

-- either way round, with the fact in hand
pub by_order {ℓ} : {A : Type ℓ} (a b : ℕ) → (a ≤ b → A) → (b < a → A) → A
by_order {A = A} a b f g = go (dec_le a b)
  where
    go : Dec (a ≤ b) → A
    go (yes h) = f h
    go (no h) = g (lt_of_not-le h)

pub pick_le {ℓ} : {A : Type ℓ} {m n : ℕ} (a b : A) → m ≤ n → pick (leb m n) a b ≡ a
pick_le {m = m} {n = n} a b h = rw (le-leb m n h)

pub pick_gt {ℓ} : {A : Type ℓ} {m n : ℕ} (a b : A) → n < m → pick (leb m n) a b ≡ b
pick_gt {m = m} {n = n} a b h = rw (lt-leb m n h)

-- two orders of which each gives the other are one test
pub same_order : (a b c d : ℕ) → (a ≤ b → c ≤ d) → (c ≤ d → a ≤ b) → leb a b ≡ leb c d
same_order a b c d there back =
    by_order a b
    (λ l. rw (le-leb a b l, le-leb c d (there l)))
    (λ l. rw (lt-leb a b l, lt-leb c d (by_order c d (λ k. absurd (not-le_of_lt l (back k))) (λ k. k))))

-- squares are ordered as their sides
pub lt_of_square : (a b : ℕ) → a * a < b * b → a < b
lt_of_square a b h = by_order b a (λ l. absurd (not-le_of_lt h (mul-le-mul l l))) (λ l. l)

-- a square above something is no square of 0
pub some_side : {n : ℕ} (r : ℕ) → n < r * r → 0 < r
some_side zero h = absurd (omega arith)
some_side (suc r) h = omega arith
