-- Laws of `nearest`, by which everything above knows it: where it goes by the rest, that it lies within half of the quotient, never falls as
-- a grows, is exact on a multiple, that a factor of both numbers cancels, and what becomes of a sum. Only `nearest_of_half` says where a half goes; the others would
-- hold of a half that goes either way. Assumes nothing.
use Rattle.std.specs.Prelude.{ℕ, ◌+◌, ◌*◌, ◌/◌, ◌%◌, ◌≤◌, ◌<◌, ◌≡◌, ltb}
use Rattle.std.proofs.Common.{sym, ◌∙◌, ap, subst, le_trans, le_of_eq, mul-le-mul_right, mul-le-mul_left, mod-lt, div-add-mod', arith, lt-ltb, le-ltb}
use Rattle.std.proofs.Math.Nat.{mul-lt-mul_of_pos_left, div-eq_of_lt-le}
use Rattle.laws.specs.OrderLaws.{by_order}
use Rattle.laws.specs.Nearest.{nearest, rounded}
use Rattle.laws.specs.NearestLaws.{EvenOf}

-- a rest of less than half, of more, and of half
rounded_less : (q r b : ℕ) → r + r < b → rounded q r b ≡ q
rounded_less q r b h = rw (lt-ltb (r + r) b h)

rounded_more : (q r b : ℕ) → b < r + r → rounded q r b ≡ q + 1
rounded_more q r b h = rw (le-ltb (r + r) b (omega arith), lt-ltb b (r + r) h)

rounded_half : (q r b : ℕ) → r + r ≡ b → EvenOf q (rounded q r b)
rounded_half q r b h = rw (le-ltb (r + r) b (omega arith), le-ltb b (r + r) (omega arith)) (omega arith, omega arith, omega arith)

-- a number is rounded by its quotient and its rest
nearest_of_rest : (q r b : ℕ) → r < b → nearest (q * b + r) b ≡ rounded q r b
unfolding nearest
nearest_of_rest q r b h =
    let whole : (q * b + r) / b ≡ q = div-eq_of_lt-le b (omega arith) (omega arith) in
    let rest : (q * b + r) % b ≡ r = omega (arith, div-add-mod' (q * b + r) b, ap (λ (n : ℕ). n * b) whole) in
    rw (whole, rest)

-- so it is the lower of two neighbours with a rest of less than half, the upper with more, and with half the even one
pub nearest_of_less : (q r b : ℕ) → r + r < b → nearest (q * b + r) b ≡ q
nearest_of_less q r b h = nearest_of_rest q r b (omega arith) ∙ rounded_less q r b h

pub nearest_of_more : (q r b : ℕ) → r < b → b < r + r → nearest (q * b + r) b ≡ q + 1
nearest_of_more q r b small h = nearest_of_rest q r b small ∙ rounded_more q r b h

pub nearest_of_half : (q r b : ℕ) → r < b → r + r ≡ b → EvenOf q (nearest (q * b + r) b)
nearest_of_half q r b small h = rw (nearest_of_rest q r b small) (rounded_half q r b h)

-- whichever way a half goes: q with a rest of half at most, one more with a rest of half at least
rounded_either : (P : ℕ → Type 0) (q r b : ℕ) → (r + r ≤ b → P q) → (b ≤ r + r → P (q + 1)) → P (rounded q r b)
rounded_either P q r b down up =
    by_order b (r + r)
    (λ h. by_order (r + r) b (halfway h) (λ k. subst P (sym (rounded_more q r b k)) (up h)))
    (λ h. subst P (sym (rounded_less q r b h)) (down (omega arith)))
  where
    halfway : b ≤ r + r → r + r ≤ b → P (rounded q r b)
    halfway h k =
        let half = rounded_half q r b (omega arith) in
        by_order (q % 2) 0 (λ even. subst P {x = q} (omega (arith, half)) (down k)) (λ odd. subst P {x = q + 1} (omega (arith, half)) (up h))

-- half of the divisor at most above the quotient ..
pub nearest_above : (a b : ℕ) → 2 * (nearest a b * b) ≤ 2 * a + b
unfolding nearest
nearest_above a b =
    let q = a / b in
    let r = a % b in
    let within = rounded_either (λ n. 2 * (n * b) ≤ 2 * (q * b + r) + b) q r b (λ h. omega arith) (λ h. omega arith) in
    omega (arith, within, div-add-mod' a b)

-- .. and at most below it
pub nearest_below : (a b : ℕ) → 0 < b → 2 * a ≤ 2 * (nearest a b * b) + b
unfolding nearest
nearest_below a b h =
    let q = a / b in
    let r = a % b in
    let small : r < b = mod-lt a h in
    let within = rounded_either (λ n. 2 * (q * b + r) ≤ 2 * (n * b) + b) q r b (λ h. omega arith) (λ h. omega arith) in
    omega (arith, within, div-add-mod' a b)

-- were it to fall, the two numbers would be one
pub nearest_mono : (a a' b : ℕ) → 0 < b → a ≤ a' → nearest a b ≤ nearest a' b
nearest_mono a a' b some l = by_order (nearest a b) (nearest a' b) (λ h. h) fallen
  where
    fallen : nearest a' b < nearest a b → nearest a b ≤ nearest a' b
    fallen h =
        let apart : (nearest a' b + 1) * b ≤ nearest a b * b = mul-le-mul_right b (omega arith) in
        let one : a ≡ a' = omega (arith, apart, nearest_above a b, nearest_below a' b some) in
        le_of_eq (ap (λ (n : ℕ). nearest n b) one)

pub nearest_of_multiple : (q b : ℕ) → 0 < b → nearest (q * b) b ≡ q
nearest_of_multiple q b h =
    subst (λ (a : ℕ). nearest a b ≡ q) {x = q * b + 0} {y = q * b} (omega arith)
    (nearest_of_less q 0 b h)

-- below a multiple the nearest is at most that, above it at least
pub nearest_at_most : (a q b : ℕ) → 0 < b → a ≤ q * b → nearest a b ≤ q
nearest_at_most a q b h l = le_trans (nearest_mono a (q * b) b h l) (le_of_eq (nearest_of_multiple q b h))

pub nearest_at_least : (a q b : ℕ) → 0 < b → q * b ≤ a → q ≤ nearest a b
nearest_at_least a q b h l = le_trans (le_of_eq (sym (nearest_of_multiple q b h))) (nearest_mono (q * b) a b h l)

-- a factor of both numbers leaves their order as it is, and cancels
scaled_order : (k a b : ℕ) → 0 < k → ltb (k * a) (k * b) ≡ ltb a b
scaled_order k a b some =
    by_order b a
    (λ l. rw (le-ltb a b l, le-ltb (k * a) (k * b) (mul-le-mul_left k l)))
    (λ l. rw (lt-ltb a b l, lt-ltb (k * a) (k * b) (mul-lt-mul_of_pos_left l some)))

pub nearest_cancel : (k a b : ℕ) → 0 < k → 0 < b → nearest (k * a) (k * b) ≡ nearest a b
nearest_cancel k a b k-some b-some =
    subst (λ (x : ℕ). nearest (k * x) (k * b) ≡ nearest x b) (div-add-mod' a b) (of_rest (a / b) (a % b) (mod-lt a b-some))
  where
    of_rest : (q r : ℕ) → r < b → nearest (k * (q * b + r)) (k * b) ≡ nearest (q * b + r) b
    of_rest q r l =
        let apart : k * (q * b + r) ≡ q * (k * b) + k * r = omega arith in
        let twice : k * r + k * r ≡ k * (r + r) = omega arith in
        rw (apart, nearest_of_rest q (k * r) (k * b) (mul-lt-mul_of_pos_left l k-some), nearest_of_rest q r b l)
        (rw (twice, scaled_order k (r + r) b k-some, scaled_order k b (r + r) k-some))

-- whole numbers less than two apart
one_apart : (x y b : ℕ) → 0 < b → 2 * (x * b) ≤ 2 * (y * b) + 3 * b → x ≤ y + 1
one_apart x y b some l =
    by_order x (y + 1) (λ h. h)
    (λ h. absurd (let apart : (y + 2) * b ≤ x * b = mul-le-mul_right b (omega arith) in omega arith))

-- two numbers rounded each by itself come to their sum rounded, give or take one
pub nearest_of_sum : (a a' b : ℕ) → 0 < b
    → (nearest a b + nearest a' b ≤ nearest (a + a') b + 1) × (nearest (a + a') b ≤ nearest a b + nearest a' b + 1)
nearest_of_sum a a' b some = (
  one_apart (nearest a b + nearest a' b) (nearest (a + a') b) b some
      (omega (arith, nearest_above a b, nearest_above a' b, nearest_below (a + a') b some)),
  one_apart (nearest (a + a') b) (nearest a b + nearest a' b) b some
      (omega (arith, nearest_below a b some, nearest_below a' b some, nearest_above (a + a') b)),
)
