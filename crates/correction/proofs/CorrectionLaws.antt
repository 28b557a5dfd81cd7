-- Laws of the corrected height: what it is by which diameter is larger, that it is the dip height where D is DH, that it stays within D, and that it never falls.
-- Assumes nothing.
use Rattle.std.specs.Prelude.{ℕ, suc, ◌+◌, ◌-◌, ◌/◌, ◌≤◌, min, ◌≡◌, pos, ◌+ℤ◌}
use Rattle.std.proofs.Common.{◌∙◌, ap, arith}
use Rattle.laws.specs.OrderLaws.{by_order}
use Rattle.laws.proofs.HalfLaws.{half_up, half_down, difference_up, difference_down}
use Rattle.correction.specs.Correction.{held_within, corrected_height}

-- where D is DH + t
pub corrected_up : (d dh h t : ℕ) → dh + t ≡ d → corrected_height d dh h ≡ min (h + t / 2) d
unfolding corrected_height
corrected_up d dh h t e = ap (λ x. held_within (pos h +ℤ x) d) (half_up d dh t e)

-- where D is DH - t - 1
pub corrected_down : (d dh h t : ℕ) → d + t + 1 ≡ dh → corrected_height d dh h ≡ min (h - (t / 2 + 1)) d
unfolding corrected_height
corrected_down d dh h t e =
    ap (λ x. held_within (pos h +ℤ x) d) (half_down d dh t e)
    ∙ by_order (t / 2 + 1) h
    (λ l. ap (λ x. held_within x d) (difference_up h (suc (t / 2)) (h - (t / 2 + 1)) (omega arith)))
    (λ l. ap (λ x. held_within x d) (difference_down h (suc (t / 2)) (t / 2 - h) (omega arith)) ∙ omega arith)

-- where D is DH it is the dip height
pub corrected_same : (d h : ℕ) → h ≤ d → corrected_height d d h ≡ h
corrected_same d h l = corrected_up d d h 0 (omega arith) ∙ omega arith

pub corrected_at_most : (d dh h : ℕ) → corrected_height d dh h ≤ d
corrected_at_most d dh h =
    by_order dh d
    (λ l. rw (corrected_up d dh h (d - dh) (omega arith)) (omega arith))
    (λ l. rw (corrected_down d dh h (dh - d - 1) (omega arith)) (omega arith))

pub corrected_mono : (d dh h h' : ℕ) → h ≤ h' → corrected_height d dh h ≤ corrected_height d dh h'
corrected_mono d dh h h' m =
    by_order dh d
    (λ l. rw (corrected_up d dh h (d - dh) (omega arith), corrected_up d dh h' (d - dh) (omega arith)) (omega arith))
    (λ l. rw (corrected_down d dh h (dh - d - 1) (omega arith), corrected_down d dh h' (dh - d - 1) (omega arith)) (omega arith))
