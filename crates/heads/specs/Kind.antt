-- The kinds of head by their numbers in a survey (document 01, 'The survey file', byte 0). Assumes nothing.
use Rattle.std.specs.Prelude.{ℕ, Bool, true, false, ◌≡◌, leb, eqb, Result, MatchResult}
use Rattle.laws.specs.Order.{pick}
use Rattle.heads.specs.declared.kind.HeadKind.{HeadKind}
use Rattle.heads.specs.declared.kind.UnknownKind.{UnknownKind}
use Rattle.heads.specs.declared.kind.HeadKind.TheVariants.{Flat, HalfEllipsoid, SphericalCap}

-- 0 flat, 1 half-ellipsoid, 2 spherical cap (document 02, E2)
unfoldable pub kind_known : ℕ → Bool
kind_known number = leb number 2

-- the number's meaning where it is known
unfoldable pub kind_of : ℕ → HeadKind
kind_of number = pick (eqb number 0) Flat (pick (eqb number 1) HalfEllipsoid SphericalCap)

-- what asking for the kind of a number gives: the kind where the number is known, and else the number
abbrev pub KindGiven : ℕ → Result HeadKind UnknownKind → Type 0
KindGiven number given =
    MatchResult given (λ kind. (kind_known number ≡ true) × (kind ≡ kind_of number)) (λ e. (kind_known number ≡ false) × (e.0 ≡ number))
