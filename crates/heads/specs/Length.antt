-- The limits of the inner length of one head, in u, by its kind (document 01, 'The survey file', byte 24). Assumes nothing.
use Rattle.std.specs.Prelude.{ℕ, ◌*◌, Bool, true, leb}
use Rattle.heads.specs.declared.kind.HeadKind.{HeadKind}
use Rattle.heads.specs.declared.kind.HeadKind.TheVariants.{Flat, HalfEllipsoid, SphericalCap}

-- of any kind
abbrev pub longest : ℕ
longest = 260000

-- kind 0: exactly 0; kinds 1 and 2: 1 to 260,000

abbrev pub shortest_of : HeadKind → ℕ
shortest_of Flat = 0
shortest_of HalfEllipsoid = 1
shortest_of SphericalCap = 1

abbrev pub longest_of : HeadKind → ℕ
longest_of Flat = 0
longest_of HalfEllipsoid = longest
longest_of SphericalCap = longest

-- refusal 14 (document 02, E2): a spherical cap is at most half as long as its diameter; to the other kinds the diameter is no limit
abbrev pub fits_diameter : HeadKind → (d l : ℕ) → Bool
fits_diameter Flat d l = true
fits_diameter HalfEllipsoid d l = true
fits_diameter SphericalCap d l = leb (2 * l) d
