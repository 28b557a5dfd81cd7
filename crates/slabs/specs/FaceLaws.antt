-- What the faces of a slab can be: the smaller is at most each, the larger is the middle or the larger of the two. Assumes nothing.
use Rattle.std.specs.Prelude.{ℕ, ◌+◌, ◌*◌, ◌≤◌, ◌<◌, max}
use Rattle.std.proofs.Math.Nat.{min-le_left, min-le_right}
use Rattle.std.proofs.Common.{le-leb}
use Rattle.std.proofs.lemmas.Bool.{lt-leb}
use Rattle.laws.specs.OrderLaws.{by_order}
use Rattle.slabs.specs.Slab.{contains_middle, smaller_face, larger_face}

pub smaller_le_lower : (f : ℕ → ℕ) (h i : ℕ) → smaller_face f h i ≤ f (h * i)
unfolding smaller_face
smaller_le_lower f h i = min-le_left (f (h * i)) (f (h * (i + 1)))

pub smaller_le_upper : (f : ℕ → ℕ) (h i : ℕ) → smaller_face f h i ≤ f (h * (i + 1))
unfolding smaller_face
smaller_le_upper f h i = min-le_right (f (h * i)) (f (h * (i + 1)))

-- what the larger face can be, and where the slab then lies
pub larger_face_law : (P : ℕ → Type 0) (f : ℕ → ℕ) (middle d h n i : ℕ)
    → (2 * (h * i) ≤ n * d → n * d ≤ 2 * (h * (i + 1)) → P middle)
    → (2 * (h * (i + 1)) < n * d → P (max (f (h * i)) (f (h * (i + 1)))))
    → (n * d < 2 * (h * i) → P (max (f (h * i)) (f (h * (i + 1)))))
    → P (larger_face f middle d h n i)
unfolding larger_face contains_middle
larger_face_law P f middle d h n i at_middle under over =
    by_order (2 * (h * i)) (n * d)
    (λ low.
    by_order (n * d) (2 * (h * (i + 1)))
    (λ high. rw (le-leb (2 * (h * i)) (n * d) low, le-leb (n * d) (2 * (h * (i + 1))) high) (at_middle low high))
    (λ high. rw (le-leb (2 * (h * i)) (n * d) low, lt-leb (n * d) (2 * (h * (i + 1))) high) (under high)))
    (λ high. rw (lt-leb (2 * (h * i)) (n * d) high) (over high))
