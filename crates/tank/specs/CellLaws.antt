-- A unit cell of the table, from level y to y + 1, holds n levels of the n times finer circle. Their chords, added, lie between
-- n² times the table's chords at the cell's two ends: the upper end is the wider before the middle, the lower end after it.
-- Assumes nothing.
use Rattle.std.specs.Prelude.{ℕ, ◌+◌, ◌*◌, ◌≤◌, ◌<◌}
use Rattle.std.proofs.Common.{le_trans, le_of_lt, lt_of_le_of_lt, mul-le-mul_left, mul-pos, arith}
use Rattle.std.proofs.Math.Nat.{mul-lt-mul_of_pos_left, mul_assoc}
use Rattle.laws.specs.Sum.{sum}
use Rattle.laws.specs.SumLaws.{sum_at_least, sum_at_most}
use Rattle.circle.specs.Circle.{chord_square, chord}
use Rattle.circle.proofs.ChordLaws.{rises, falls, chord_next_square, chord_lt, chord_mono, chord_finer, chord_widest, chord_square_scale}

unfoldable pub cell : (d n y : ℕ) → ℕ
cell d n y = sum n (λ j. chord (n * d) (y * n + j))

-- between the narrow and the wide end of the cell; the table's chord is rounded down, hence + 1
pub record Between (d n y narrow wide : ℕ) : Type 0 where
  pub at_least : n * n * chord d narrow ≤ cell d n y
  pub at_most : cell d n y ≤ n * n * (chord d wide + 1)

module _ (d n : ℕ) (some : 0 < n) where
  finer_at_least : (y k : ℕ) → chord_square (n * d) (n * y) ≤ chord_square (n * d) k → n * chord d y ≤ chord (n * d) k
  finer_at_least y k h = le_trans (chord_finer n d y) (chord_mono (n * d) (n * y) k h)

  finer_at_most : (y k : ℕ) → chord_square (n * d) k ≤ chord_square (n * d) (n * y) → chord (n * d) k ≤ n * (chord d y + 1)
  finer_at_most y k h =
      le_of_lt (chord_lt (n * (chord d y + 1)) (n * d) k (lt_of_le_of_lt h (rw chord_square_scale
      (omega (arith, mul-lt-mul_of_pos_left (chord_next_square d y) (mul-pos some some))))))

  between : (y narrow wide : ℕ)
      → ((j : ℕ) → j < n → chord_square (n * d) (n * narrow) ≤ chord_square (n * d) (y * n + j))
      → ((j : ℕ) → j < n → chord_square (n * d) (y * n + j) ≤ chord_square (n * d) (n * wide))
      → Between d n y narrow wide
  unfolding cell
  between y narrow wide low high = record {
    at_least =
        rw mul_assoc (sum_at_least n (n * chord d narrow) (λ j. chord (n * d) (y * n + j))
        (λ j l. finer_at_least narrow (y * n + j) (low j l)));
    at_most =
        rw mul_assoc (sum_at_most n (n * (chord d wide + 1)) (λ j. chord (n * d) (y * n + j))
        (λ j l. finer_at_most wide (y * n + j) (high j l)));
  }

  pub cell_rises : (y : ℕ) → 2 * (y + 1) ≤ d → Between d n y y (y + 1)
  cell_rises y l =
      let scaled = mul-le-mul_left n l in
      between y y (y + 1)
      (λ j inside. rises (n * d) (n * y) (y * n + j) (omega arith) (omega arith))
      (λ j inside. rises (n * d) (y * n + j) (n * (y + 1)) (omega arith) (omega arith))

  pub cell_falls : (y : ℕ) → d < 2 * y → Between d n y (y + 1) y
  cell_falls y l =
      let scaled = mul-le-mul_left n (le_of_lt l) in
      between y (y + 1) y
      (λ j inside. falls (n * d) (y * n + j) (n * (y + 1)) (omega arith) (omega arith))
      (λ j inside. falls (n * d) (n * y) (y * n + j) (omega arith) (omega arith))

-- also where the cell contains the middle
pub cell_widest : (d n y : ℕ) → cell d n y ≤ n * n * d
unfolding cell
cell_widest d n y =
    rw mul_assoc (sum_at_most n (n * d) (λ j. chord (n * d) (y * n + j)) (λ j l. chord_widest (n * d) (y * n + j)))
