-- Laws of finite sums: comparison, addition, scaling, splitting, summing by blocks, and bounds. Assumes nothing.
use Rattle.std.specs.Prelude.{ℕ, zero, suc, ◌+◌, ◌*◌, ◌≤◌, ◌<◌, ◌≡◌, refl}
use Rattle.std.proofs.Common.{sym, ◌∙◌, ap, le_refl, lt-suc_self, add-le-add, add_assoc, add-zero, add-suc, mul-zero, mul-add, zero-mul, suc-mul, le_of_eq, add-one, arith}
use Rattle.std.proofs.Math.Nat.{le_step, le_dest}
use Rattle.laws.specs.Sum.{sum}

pub sum_zero : (f : ℕ → ℕ) → sum 0 f ≡ 0
unfolding sum
sum_zero f = refl

pub sum_suc : (n : ℕ) (f : ℕ → ℕ) → sum (suc n) f ≡ sum n f + f n
unfolding sum
sum_suc n f = refl

pub sum_next : (n : ℕ) (f : ℕ → ℕ) → sum (n + 1) f ≡ sum n f + f n
sum_next n f = ap (λ (m : ℕ). sum m f) (add-one n) ∙ sum_suc n f

-- term by term
pub sum_le : (n : ℕ) (f g : ℕ → ℕ) → ((k : ℕ) → k < n → f k ≤ g k) → sum n f ≤ sum n g
unfolding sum
sum_le zero f g h = le_refl 0
sum_le (suc n) f g h = add-le-add (sum_le n f g (λ k l. h k (le_step l))) (h n (lt-suc_self n))

pub sum_same : (n : ℕ) (f g : ℕ → ℕ) → ((k : ℕ) → f k ≡ g k) → sum n f ≡ sum n g
unfolding sum
sum_same zero f g h = refl
sum_same (suc n) f g h = rw (h n) (ap (λ (s : ℕ). s + g n) (sum_same n f g h))

pub sum_add : (n : ℕ) (f g : ℕ → ℕ) → sum n (λ k. f k + g k) ≡ sum n f + sum n g
unfolding sum
sum_add zero f g = refl
sum_add (suc n) f g = let h = sum_add n f g in omega arith

pub sum_scale : (n c : ℕ) (f : ℕ → ℕ) → sum n (λ k. c * f k) ≡ c * sum n f
unfolding sum
sum_scale zero c f = sym (mul-zero c)
sum_scale (suc n) c f = rw mul-add (ap (λ (s : ℕ). s + c * f n) (sum_scale n c f))

pub sum_const : (n c : ℕ) → sum n (λ k. c) ≡ n * c
unfolding sum
sum_const zero c = sym (zero-mul c)
sum_const (suc n) c = rw suc-mul (ap (λ (s : ℕ). s + c) (sum_const n c))

-- the first m terms, then n more
pub sum_split : (m n : ℕ) (f : ℕ → ℕ) → sum (m + n) f ≡ sum m f + sum n (λ k. f (m + k))
unfolding sum
sum_split m zero f = rw (add-zero, add-zero)
sum_split m (suc n) f = rw add-suc (ap (λ (s : ℕ). s + f (m + n)) (sum_split m n f) ∙ add_assoc (sum m f) (sum n (λ k. f (m + k))) (f (m + n)))

-- from the second term on, and one more
pub sum_shift : (n : ℕ) (f : ℕ → ℕ) → sum n f + f n ≡ f 0 + sum n (λ k. f (k + 1))
unfolding sum
sum_shift zero f = omega arith
sum_shift (suc n) f =
    let h = sum_shift n f in
    let last : f (n + 1) ≡ f (suc n) = ap f (add-one n) in
    omega arith

-- with more terms it is no smaller
pub sum_mono : (m n : ℕ) (f : ℕ → ℕ) → m ≤ n → sum m f ≤ sum n f
sum_mono m n f l = let (t, p) = le_dest l in rw (← p, sum_split m t f) (omega arith)

-- with nothing from m on it is the first m terms'
pub sum_stops : (m n : ℕ) (f : ℕ → ℕ) → m ≤ n → ((k : ℕ) → m ≤ k → f k ≡ 0) → sum n f ≡ sum m f
sum_stops m n f l none =
    let (t, p) = le_dest l in
    rw (← p, sum_split m t f) (omega (arith, rest t))
  where
    rest : (t : ℕ) → sum t (λ k. f (m + k)) ≤ t * 0
    rest t = rw (← sum_const) (sum_le t (λ k. f (m + k)) (λ k. 0) (λ k _. omega (arith, none (m + k) (omega arith))))

-- what rises by at least its term in each step rises by at least the sum, and likewise for at most
pub sum_below : (n : ℕ) (f g : ℕ → ℕ) → ((k : ℕ) → k < n → g k + f k ≤ g (suc k)) → g 0 + sum n f ≤ g n
unfolding sum
sum_below zero f g h = le_of_eq (add-zero (g 0))
sum_below (suc n) f g h =
    let i = sum_below n f g (λ k l. h k (le_step l)) in
    let j = h n (lt-suc_self n) in
    omega arith

pub sum_above : (n : ℕ) (f g : ℕ → ℕ) → ((k : ℕ) → k < n → g (suc k) ≤ g k + f k) → g n ≤ g 0 + sum n f
unfolding sum
sum_above zero f g h = le_of_eq (sym (add-zero (g 0)))
sum_above (suc n) f g h =
    let i = sum_above n f g (λ k l. h k (le_step l)) in
    let j = h n (lt-suc_self n) in
    omega arith

-- m blocks of n terms each
pub sum_blocks : (m n : ℕ) (f : ℕ → ℕ) → sum (m * n) f ≡ sum m (λ i. sum n (λ j. f (i * n + j)))
unfolding sum
sum_blocks zero n f = rw zero-mul
sum_blocks (suc m) n f = rw suc-mul (sum_split (m * n) n f ∙ ap (λ (s : ℕ). s + sum n (λ j. f (m * n + j))) (sum_blocks m n f))

-- in two directions, in either order
pub sum_swap : (m n : ℕ) (f : ℕ → ℕ → ℕ) → sum m (λ i. sum n (f i)) ≡ sum n (λ k. sum m (λ i. f i k))
unfolding sum
sum_swap zero n f = sym (sum_const n 0 ∙ mul-zero n)
sum_swap (suc m) n f = ap (λ (s : ℕ). s + sum n (f m)) (sum_swap m n f) ∙ sym (sum_add n (λ k. sum m (λ i. f i k)) (f m))

-- bounded term by term, alone or block by block
pub sum_at_least : (n z : ℕ) (f : ℕ → ℕ) → ((k : ℕ) → k < n → z ≤ f k) → n * z ≤ sum n f
sum_at_least n z f h = rw (← sum_const) (sum_le n (λ k. z) f h)

pub sum_at_most : (n z : ℕ) (f : ℕ → ℕ) → ((k : ℕ) → k < n → f k ≤ z) → sum n f ≤ n * z
sum_at_most n z f h = rw (← sum_const) (sum_le n f (λ k. z) h)

-- m blocks of n terms, each term of block i at least g i ..
pub blocks_at_least : (m n : ℕ) (g f : ℕ → ℕ) → ((i j : ℕ) → j < n → g i ≤ f (i * n + j)) → n * sum m g ≤ sum (m * n) f
blocks_at_least m n g f h =
    rw (← sum_scale, sum_blocks) (sum_le m (λ i. n * g i) (λ i. sum n (λ j. f (i * n + j)))
    (λ i l. sum_at_least n (g i) (λ j. f (i * n + j)) (h i)))

-- .. or at most g i
pub blocks_at_most : (m n : ℕ) (g f : ℕ → ℕ) → ((i j : ℕ) → j < n → f (i * n + j) ≤ g i) → sum (m * n) f ≤ n * sum m g
blocks_at_most m n g f h =
    rw (← sum_scale, sum_blocks) (sum_le m (λ i. sum n (λ j. f (i * n + j))) (λ i. n * g i)
    (λ i l. sum_at_most n (g i) (λ j. f (i * n + j)) (h i)))

-- in two directions: blocks of q by s terms, each term of block i, k at least g i k ..
pub grid_at_least : (p q r s : ℕ) (g f : ℕ → ℕ → ℕ) → ((i j k o : ℕ) → j < q → o < s → g i k ≤ f (i * q + j) (k * s + o))
    → q * (s * sum p (λ i. sum r (g i))) ≤ sum (p * q) (λ y. sum (r * s) (f y))
grid_at_least p q r s g f h =
    rw (sum_scale p s (λ i. sum r (g i))) at
    (blocks_at_least p q (λ i. s * sum r (g i)) (λ y. sum (r * s) (f y))
    (λ i j l. blocks_at_least r s (g i) (f (i * q + j)) (λ k o m. h i j k o l m)))

-- .. or at most g i k
pub grid_at_most : (p q r s : ℕ) (g f : ℕ → ℕ → ℕ) → ((i j k o : ℕ) → j < q → o < s → f (i * q + j) (k * s + o) ≤ g i k)
    → sum (p * q) (λ y. sum (r * s) (f y)) ≤ q * (s * sum p (λ i. sum r (g i)))
grid_at_most p q r s g f h =
    rw (sum_scale p s (λ i. sum r (g i))) at
    (blocks_at_most p q (λ i. s * sum r (g i)) (λ y. sum (r * s) (f y))
    (λ i j l. blocks_at_most r s (g i) (f (i * q + j)) (λ k o m. h i j k o l m)))
