-- The fitting and the covering faces of one cut, against each other: no fitting face exceeds its covering face, the sums of the two
-- close in on each other as the slabs grow in number, and slabs that are cut finer fit no less. So no total can be made easier to
-- claim something of without one of these failing. Assumes nothing.
use Prim.Native.Nat.{ℕ, ◌+◌, ◌*◌, ◌≤◌, ◌<◌, min}
use Rattle.std.proofs.Common.{le_trans, le_of_lt}
use Rattle.std.proofs.Math.Nat.{le-min, mul-le-mul_left}
use native.Mathlib.Omega.{arith}
use Rattle.laws.specs.Sum.{sum}
use Rattle.laws.specs.SumLaws.{sum_le, sum_add, sum_const, sum_scale, blocks_at_least}
use Rattle.slabs.specs.Slab.{smaller_face, larger_face}
use Rattle.slabs.specs.FaceLaws.{smaller_le_lower, smaller_le_upper, larger_face_law}
use Rattle.slabs.specs.TurnLaws.{sum_le_by_turn}
use Rattle.slabs.specs.CutLaws.{Measures, Measures}

module _ (d h n unit middle : ℕ) (f g : ℕ → ℕ) (m : Measures d n unit middle f g) where
  smaller_le_larger : (i : ℕ) → smaller_face f h i ≤ larger_face g middle d h n i
  smaller_le_larger i =
      let low = smaller_le_lower f h i in
      larger_face_law (λ z. smaller_face f h i ≤ z) g middle d h n i
      (λ _ _. le_trans low (m.widest (h * i)))
      (λ _. omega (arith, low, m.no_less (h * i)))
      (λ _. omega (arith, low, m.no_less (h * i)))

  pub faces_fit_under : sum n (smaller_face f h) ≤ sum n (larger_face g middle d h n)
  faces_fit_under = sum_le n (smaller_face f h) (larger_face g middle d h n) (λ i l. smaller_le_larger i)

  rise : (i : ℕ) → 2 * (h * (i + 1)) ≤ n * d → larger_face g middle d h n i + f (h * i) ≤ smaller_face f h i + unit + f (h * (i + 1))
  unfolding smaller_face
  rise i below =
      let a = h * i in
      let b = h * (i + 1) in
      let up = m.rising a b (omega arith) below in
      larger_face_law (λ z. z + f a ≤ min (f a) (f b) + unit + f b) g middle d h n i
      (λ low high. omega (arith, up, m.at_middle b (omega arith)))
      (λ low. omega (arith, up, m.near a, m.near b))
      (λ high. absurd (omega arith))

  turn : (i : ℕ) → 2 * (h * i) ≤ n * d → n * d < 2 * (h * (i + 1))
      → larger_face g middle d h n i + (f (h * i) + f (h * (i + 1))) ≤ smaller_face f h i + unit + 3 * middle
  turn i low high =
      let a = h * i in
      let b = h * (i + 1) in
      larger_face_law (λ z. z + (f a + f b) ≤ smaller_face f h i + unit + 3 * middle) g middle d h n i
      (λ _ _. omega (arith, m.widest a, m.widest b))
      (λ _. omega (arith, m.widest a, m.widest b, m.near a, m.near b))
      (λ _. omega (arith, m.widest a, m.widest b, m.near a, m.near b))

  fall : (i : ℕ) → n * d < 2 * (h * i) → larger_face g middle d h n i + f (h * (i + 1)) ≤ smaller_face f h i + unit + f (h * i)
  unfolding smaller_face
  fall i above =
      let a = h * i in
      let b = h * (i + 1) in
      let down = m.falling a b (omega arith) (le_of_lt above) in
      larger_face_law (λ z. z + f b ≤ min (f a) (f b) + unit + f a) g middle d h n i
      (λ low high. absurd (omega arith))
      (λ low. absurd (omega arith))
      (λ high. omega (arith, down, m.near a, m.near b))

  -- the covering sum exceeds the fitting sum by the rounding of each slab and three times the widest face, however many the slabs
  pub faces_close : sum n (larger_face g middle d h n) ≤ sum n (smaller_face f h) + n * unit + 3 * middle
  faces_close =
      rw (sum_add n (smaller_face f h) (λ i. unit), sum_const n unit) at
      (sum_le_by_turn (n * d) h (3 * middle) (λ i. f (h * i)) (larger_face g middle d h n) (λ i. smaller_face f h i + unit)
      rise turn fall n (omega (arith, m.widest (h * n))))

-- each slab cut into k: f' measures in a k times finer circle, where each level gives at least t times what f gives, and between two
-- levels no less than at one of them
module _ (h n k t : ℕ) (f f' : ℕ → ℕ)
    (finer : (x : ℕ) → t * f x ≤ f' (k * x))
    (between : (a b c : ℕ) → a ≤ b → b ≤ c → min (f' a) (f' c) ≤ f' b) where
  inside : (i x : ℕ) → k * (h * i) ≤ x → x ≤ k * (h * (i + 1)) → t * smaller_face f h i ≤ f' x
  inside i x low high =
      le_trans
      (le-min
      (le_trans (mul-le-mul_left t (smaller_le_lower f h i)) (finer (h * i)))
      (le_trans (mul-le-mul_left t (smaller_le_upper f h i)) (finer (h * (i + 1)))))
      (between (k * (h * i)) x (k * (h * (i + 1))) low high)

  block : (i j : ℕ) → j < k → t * smaller_face f h i ≤ smaller_face f' h (i * k + j)
  unfolding smaller_face
  block i j l =
      let next : j + 1 ≤ k = omega arith in
      let here = mul-le-mul_left h next in
      le-min
      (inside i (h * (i * k + j)) (omega arith) (omega arith))
      (inside i (h * (i * k + j + 1)) (omega arith) (omega arith))

  pub faces_refine : k * (t * sum n (smaller_face f h)) ≤ sum (n * k) (smaller_face f' h)
  faces_refine =
      rw (sum_scale n t (smaller_face f h)) at (blocks_at_least n k (λ i. t * smaller_face f h i) (smaller_face f' h) block)
