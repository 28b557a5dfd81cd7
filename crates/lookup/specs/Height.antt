-- The lowest height for a volume (document 01, 'Lookups'), and what it is to be the lowest. Assumes nothing.
use Rattle.std.specs.Prelude.{ℕ, ◌≤◌, ◌<◌, List, leb}
use Rattle.laws.specs.Search.{least}
use Rattle.lookup.specs.Litres.{litres}

-- the lowest height from 0 to DH whose litres are at least w
unfoldable pub height_for : (dh step : ℕ) (table : List ℕ) (w : ℕ) → ℕ
height_for dh step table w = least dh (λ h. leb w (litres dh step table h))

pub record Lowest (dh step : ℕ) (table : List ℕ) (w h : ℕ) : Type 0 where
  pub inside : h ≤ dh
  pub reaches : w ≤ litres dh step table h
  pub first : (lower : ℕ) → lower < h → litres dh step table lower < w
