-- Laws of the value on the line: at each row it is that row, it lies between the two, and it never falls.
-- Assumes nothing.
use Rattle.std.specs.Prelude.{ℕ, ◌+◌, ◌*◌, ◌-◌, ◌≤◌, ◌<◌, ◌≡◌}
use Rattle.std.proofs.Common.{◌∙◌, ap, mul-le-mul_right, arith}
use Rattle.laws.specs.Nearest.{nearest}
use Rattle.laws.proofs.NearestLaws.{nearest_mono, nearest_of_multiple, nearest_at_most, nearest_at_least}
use Rattle.lookup.specs.Line.{line_value}

-- x above the lower row is y below the upper
pub by_both : (a b x y gap : ℕ) → x + y ≡ gap → line_value a b x gap ≡ nearest (a * y + b * x) gap
unfolding line_value
by_both a b x y gap e = let rest : gap - x ≡ y = omega arith in ap (λ (r : ℕ). nearest (a * r + b * x) gap) rest

-- all laws are of a point on the line: x + y is the gap
module _ (a b gap : ℕ) (some : 0 < gap) where
  pub line_at_lower : line_value a b 0 gap ≡ a
  line_at_lower =
      let all : a * gap + b * 0 ≡ a * gap = omega arith in
      by_both a b 0 gap gap (omega arith) ∙ rw all (nearest_of_multiple a gap some)

  pub line_at_upper : line_value a b gap gap ≡ b
  line_at_upper =
      let all : a * 0 + b * gap ≡ b * gap = omega arith in
      by_both a b gap 0 gap (omega arith) ∙ rw all (nearest_of_multiple b gap some)

  pub line_at_least : a ≤ b → (x : ℕ) → x ≤ gap → a ≤ line_value a b x gap
  line_at_least rises x l =
      rw (by_both a b x (gap - x) gap (omega arith))
      (nearest_at_least _ a gap some (spread (gap - x) (omega arith) (mul-le-mul_right x rises)))
    where
      spread : (y : ℕ) → x + y ≡ gap → a * x ≤ b * x → a * gap ≤ a * y + b * x
      spread y e m = rw (← e) (omega arith)

  pub line_at_most : a ≤ b → (x : ℕ) → x ≤ gap → line_value a b x gap ≤ b
  line_at_most rises x l =
      rw (by_both a b x (gap - x) gap (omega arith))
      (nearest_at_most _ b gap some (spread (gap - x) (omega arith) (mul-le-mul_right (gap - x) rises)))
    where
      spread : (y : ℕ) → x + y ≡ gap → a * y ≤ b * y → a * y + b * x ≤ b * gap
      spread y e m = rw (← e) (omega arith)

  pub line_rises : a ≤ b → (x : ℕ) → x + 1 ≤ gap → line_value a b x gap ≤ line_value a b (x + 1) gap
  line_rises rises x l =
      rw (by_both a b x (gap - (x + 1) + 1) gap (omega arith), by_both a b (x + 1) (gap - (x + 1)) gap (omega arith))
      (nearest_mono _ _ gap some (spread (gap - (x + 1))))
    where
      spread : (y : ℕ) → a * (y + 1) + b * x ≤ a * y + b * (x + 1)
      spread y = omega arith
