-- A head within the limits of its kind and of its diameter. Assumes nothing.
use Rattle.std.specs.Prelude.{ℕ, ◌*◌, ◌≤◌, ◌≡◌, true}
use Rattle.std.proofs.Common.{arith, leb-true}
use Rattle.heads.specs.declared.kind.HeadKind.{HeadKind}
use Rattle.heads.specs.declared.kind.HeadKind.TheVariants.{Flat, HalfEllipsoid, SphericalCap}
use Rattle.heads.specs.Length.{longest, shortest_of, longest_of, fits_diameter}

pub record HeadLimits (kind : HeadKind) (d l : ℕ) : Type 0 where
  pub low : shortest_of kind ≤ l
  pub high : l ≤ longest
  pub fits : fits_diameter kind d l ≡ true

-- no head of any kind is longer than the longest
longest_of_all : (kind : HeadKind) → longest_of kind ≤ longest
longest_of_all Flat = omega arith
longest_of_all HalfEllipsoid = omega arith
longest_of_all SphericalCap = omega arith

pub within_limits : (kind : HeadKind) (d l : ℕ) → shortest_of kind ≤ l → l ≤ longest_of kind → fits_diameter kind d l ≡ true → HeadLimits kind d l
within_limits kind d l low high fits = record { low = low; high = omega (arith, longest_of_all kind); fits = fits }

-- a spherical cap is at most half as long as its diameter
pub cap_limits : (d l : ℕ) → HeadLimits SphericalCap d l → 2 * l ≤ d
cap_limits d l limits = leb-true (2 * l) d limits.fits
