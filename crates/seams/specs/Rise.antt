-- The tape rise over weld seams (document 02, E4; document 000, formula 1): 2Ntw/d + (8Nt/3)·root(t/d), with N seams of thickness t and
-- width w, and d = DH. Assumes nothing.
use Rattle.std.specs.Prelude.{ℕ, ◌+◌, ◌*◌}
use Rattle.laws.specs.Nearest.{nearest}
use Rattle.laws.specs.Root.{root_of}
use Rattle.seams.specs.declared.seam.Seam.{Seam}

-- 2Ntw/d, to the nearest u
unfoldable pub first_term : Seam → ℕ → ℕ
first_term seam d = nearest (2 * seam.number * seam.thickness * seam.width) d

-- (8Nt/3)·root(t/d): the largest whole u whose square does not exceed 64N²t³/(9d)
unfoldable pub second_term : Seam → ℕ → ℕ
second_term seam d = root_of (64 * seam.number * seam.number * (seam.thickness * seam.thickness * seam.thickness)) (9 * d)

unfoldable pub tape_rise : Seam → ℕ → ℕ
tape_rise seam d = first_term seam d + second_term seam d
