-- The slabs of a tank's parts, their totals over the list of parts, and the tolerance (document 01, 'Slabs'; document 02, E2). Volumes are
-- fractions of cubic u. Assumes nothing.
use Rattle.std.specs.Prelude.{ℕ, suc, ◌+◌, ◌*◌, List, [], ◌∷◌}
use Rattle.laws.specs.Sum.{sum}
use Rattle.measure.specs.Quantity.{cubic_per_v}
use Rattle.circle.specs.Circle.{chord, chord_up}
use Rattle.slabs.specs.Fraction.{Fraction, whole, ◌⊕◌}
use Rattle.slabs.specs.Slab.{Cut, smaller_face, larger_face}
use Rattle.heads.specs.Slabs.{heads_fitting, heads_covering, heads_tolerance}
use Rattle.tank.specs.Part.{Shape, cylinder, head_pair, Part, Filled}

-- a cylinder's slabs: width × length × H/N each, the width in N-ths of u. The width at D/2 is D.
unfoldable pub cylinder_fitting : (d l h n : ℕ) → Fraction
cylinder_fitting d l h n = record { over = sum n (smaller_face (chord (n * d)) h) * l * h; under = n * n }

unfoldable pub cylinder_covering : (d l h n : ℕ) → Fraction
cylinder_covering d l h n = record { over = sum n (larger_face (chord_up (n * d)) (n * d) d h n) * l * h; under = n * n }

-- a part's slabs; a cylinder is cut into levels alone

abbrev pub shape_fitting : Shape → (d l h : ℕ) → Cut → Fraction
shape_fitting cylinder d l h cut = cylinder_fitting d l h cut.levels
shape_fitting (head_pair kind) d l h cut = heads_fitting kind d l h cut

unfoldable pub fitting_of : Filled → Cut → Fraction
fitting_of f cut = shape_fitting f.part.shape f.part.d f.part.l f.height cut

abbrev pub shape_covering : Shape → (d l h : ℕ) → Cut → Fraction
shape_covering cylinder d l h cut = cylinder_covering d l h cut.levels
shape_covering (head_pair kind) d l h cut = heads_covering kind d l h cut

unfoldable pub covering_of : Filled → Cut → Fraction
covering_of f cut = shape_covering f.part.shape f.part.d f.part.l f.height cut

-- the parts' totals, added: part k of the list is cut by `cuts k`

unfoldable pub fitting_total : List Filled → (cuts : ℕ → Cut) → Fraction
fitting_total [] cuts = whole 0
fitting_total (f ∷ fs) cuts = fitting_of f (cuts 0) ⊕ fitting_total fs (λ k. cuts (suc k))

unfoldable pub covering_total : List Filled → (cuts : ℕ → Cut) → Fraction
covering_total [] cuts = whole 0
covering_total (f ∷ fs) cuts = covering_of f (cuts 0) ⊕ covering_total fs (λ k. cuts (suc k))

-- a film 1 u thick over a cylinder's middle section: D-as-L cubic u. Heads have none.
abbrev pub shape_film : Shape → (d l : ℕ) → ℕ
shape_film cylinder d l = d * l
shape_film (head_pair kind) d l = 0

unfoldable pub film_of : Part → ℕ
film_of p = shape_film p.shape p.d p.l

unfoldable pub film : List Filled → ℕ
film [] = 0
film (f ∷ fs) = film_of f.part + film fs

-- what a part's shape adds to the tolerance at its height
abbrev pub shape_tolerance : Shape → (d l h : ℕ) → ℕ
shape_tolerance cylinder d l h = 0
shape_tolerance (head_pair kind) d l h = heads_tolerance kind d l h

unfoldable pub tolerance_of : Filled → ℕ
tolerance_of f = shape_tolerance f.part.shape f.part.d f.part.l f.height

unfoldable pub added : List Filled → ℕ
added [] = 0
added (f ∷ fs) = tolerance_of f + added fs

-- the tolerance in cubic u: three films, which are 3·(D1-as-L1 + 2·D2·L2), and 3 v, and what the parts add
unfoldable pub tolerance : List Filled → ℕ
tolerance parts = 3 * film parts + 3 * cubic_per_v + added parts
