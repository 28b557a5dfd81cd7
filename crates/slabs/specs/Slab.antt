-- Slabs (document 01, 'Slabs'). A part of diameter D is filled to height H and cut into N slabs of equal height, N at least 1.
-- Levels and widths are counted in N-ths of u: slab i reaches from level H·i to level H·(i + 1), and the circle has diameter
-- N-as-D. Here is what a slab takes of its two faces; a part's own crate says what is measured there. Assumes nothing.
use Rattle.std.specs.Prelude.{ℕ, ◌+◌, ◌*◌, ◌<◌, min, max, Bool, ◌&&◌, leb}
use Rattle.laws.specs.Order.{pick}

-- how a part is cut: into so many levels, and where its width changes along its length, as in a dome, into so many lengths too
pub record Cut : Type 0 where
  pub levels : ℕ
  pub lengths : ℕ

-- at least 1 of each
abbrev pub Some : Cut → Type 0
Some cut = (0 < cut.levels) × (0 < cut.lengths)

-- slab i contains the level D/2
unfoldable pub contains_middle : (d h n i : ℕ) → Bool
contains_middle d h n i = leb (2 * (h * i)) (n * d) && leb (n * d) (2 * (h * (i + 1)))

-- the smaller of a slab's two faces, f giving what is measured at a level
unfoldable pub smaller_face : (f : ℕ → ℕ) (h i : ℕ) → ℕ
smaller_face f h i = min (f (h * i)) (f (h * (i + 1)))

-- the larger of a slab's two faces, or the middle where the slab contains the level D/2
unfoldable pub larger_face : (f : ℕ → ℕ) (middle d h n i : ℕ) → ℕ
larger_face f middle d h n i = pick (contains_middle d h n i) middle (max (f (h * i)) (f (h * (i + 1))))
