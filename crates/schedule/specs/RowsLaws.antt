-- Laws of the rows: all but the last stand below DH, the last at DH, every multiple of the step up to DH is a row, the rows mirror
-- where DH is one, and a height below DH lies between two rows. Assumes nothing.
use Rattle.std.specs.Prelude.{ℕ, zero, suc, ◌+◌, ◌-◌, ◌*◌, ◌/◌, ◌%◌, ◌≤◌, ◌<◌, ◌≡◌, refl}
use Rattle.std.proofs.Common.{ap, div-add-mod', mod-lt, le_of_lt, le_trans, lt_of_le_of_lt, pos_of_ne-zero, mul-le-mul_right, suc-mul, zero-mul, add-mul, div-mul-le_self, eq-eqb, ne_eqb}
use Rattle.std.proofs.Math.Nat.{min-eq_left, min-eq_right, min-le_left, min-le_right, le-min, lt-div-mul-add}
use native.Mathlib.Omega.{arith}
use Rattle.laws.specs.OrderLaws.{by_order}
use Rattle.measure.specs.Diameter.{largest}
use Rattle.schedule.specs.Rows.{smallest_step, most_rows, row_count, row_height, row_below}

-- DH is a number of whole steps and a rest
module _ (dh step : ℕ) (p : 0 < step) where
  whole_steps : dh / step * step + dh % step ≡ dh
  whole_steps = div-add-mod' dh step

  pub count_even : dh % step ≡ 0 → row_count dh step ≡ dh / step + 1
  unfolding row_count
  count_even e = rw (eq-eqb (dh % step) 0 e) (omega arith)

  pub count_odd : (dh % step ≡ 0 → ⊥) → row_count dh step ≡ dh / step + 2
  unfolding row_count
  count_odd ne = rw (ne_eqb (dh % step) 0 ne) (omega arith)

  by_rest {ℓ} : {A : Type ℓ} → (dh % step ≡ 0 → A) → ((dh % step ≡ 0 → ⊥) → A) → A
  by_rest f g = by_order (dh % step) 0 (λ l. f (omega arith)) (λ l. g (λ e. omega arith))

  -- all rows but the last stand below DH ..
  pub before_last : (i : ℕ) → i + 1 < row_count dh step → i * step < dh
  before_last i h =
      by_rest
      (λ e. omega (arith, count_even e, whole_steps, mul-le-mul_right {m = i + 1} {n = dh / step} step (omega (arith, count_even e))))
      (λ ne. lt_of_le_of_lt (mul-le-mul_right {m = i} {n = dh / step} step (omega (arith, count_odd ne))) (omega (arith, whole_steps, pos_of_ne-zero ne)))

  -- .. and the last does not
  pub at_last : (i : ℕ) → row_count dh step ≤ i + 1 → dh ≤ i * step
  at_last i h =
      by_rest
      (λ e. omega (arith, whole_steps, mul-le-mul_right {m = dh / step} {n = i} step (omega (arith, count_even e))))
      (λ ne. omega (arith, whole_steps, mod-lt dh p, mul-le-mul_right {m = dh / step + 1} {n = i} step (omega (arith, count_odd ne))))

  pub count_pos : 0 < row_count dh step
  unfolding row_count
  count_pos = omega arith

  pub height_before_last : (i : ℕ) → i + 1 < row_count dh step → row_height dh step i ≡ i * step
  unfolding row_height
  height_before_last i h = min-eq_left (le_of_lt (before_last i h))

  pub height_at_last : (i : ℕ) → row_count dh step ≤ i + 1 → row_height dh step i ≡ dh
  unfolding row_height
  height_at_last i h = min-eq_right (at_last i h)

  pub height_at_most : (i : ℕ) → row_height dh step i ≤ dh
  unfolding row_height
  height_at_most i = min-le_right (i * step) dh

  pub height_next : (i : ℕ) → row_height dh step i ≤ row_height dh step (i + 1)
  unfolding row_height
  height_next i = le-min (omega (arith, min-le_left (i * step) dh)) (min-le_right (i * step) dh)

  pub height_in_steps : (i : ℕ) → row_height dh step i ≤ i * step
  unfolding row_height
  height_in_steps i = min-le_left (i * step) dh

  pub heights_rise : (i : ℕ) → i + 1 < row_count dh step → row_height dh step i < row_height dh step (i + 1)
  unfolding row_height
  heights_rise i h = rw (height_before_last i h) (le-min (omega arith) (before_last i h))

  pub gap_at_most : (i : ℕ) → i + 1 < row_count dh step → row_height dh step (i + 1) ≤ row_height dh step i + step
  gap_at_most i h = omega (arith, height_before_last i h, height_in_steps (i + 1))

  -- every multiple of the step up to DH is a row's height, by its own number
  pub multiple_in_count : (k : ℕ) → k * step ≤ dh → k < row_count dh step
  multiple_in_count zero h = count_pos
  multiple_in_count (suc k) h =
      by_order (row_count dh step) (suc k)
      (λ l. absurd (omega (arith, at_last k (omega arith), simp suc-mul at h)))
      (λ l. l)

  pub height_of_multiple : (k : ℕ) → k * step ≤ dh → row_height dh step k ≡ k * step
  unfolding row_height
  height_of_multiple k h = min-eq_left h

  -- where DH is a number of whole steps, the rows from the bottom up mirror those from the top down
  pub heights_mirrored : dh % step ≡ 0 → (i j : ℕ) → i + j + 1 ≡ row_count dh step → row_height dh step i + row_height dh step j ≡ dh
  heights_mirrored e i j all =
      let steps : i + j ≡ dh / step = omega (arith, count_even e) in
      let whole : i * step + j * step ≡ dh = omega (arith, add-mul i j step, ap (λ (n : ℕ). n * step) steps, whole_steps) in
      omega (arith, height_of_multiple i (omega arith), height_of_multiple j (omega arith))

  -- no row's number of steps passes DH by more than one step
  pub steps_at_most : (i : ℕ) → i < row_count dh step → i * step ≤ dh + step
  steps_at_most zero h = omega (arith, zero-mul step)
  steps_at_most (suc k) h = omega (arith, before_last k (omega arith), suc-mul k step)

module _ (dh step : ℕ) (p : 0 < step) where
  pub below_top : row_below dh step dh ≡ row_count dh step - 1
  unfolding row_below
  below_top = rw (eq-eqb dh dh refl)

  pub below_inside : (h : ℕ) → h < dh → row_below dh step h ≡ h / step
  unfolding row_below
  below_inside h l = rw (ne_eqb h dh (λ e. omega arith))

  -- below DH there is a row above, and the height lies between the two
  pub inside_count : (h : ℕ) → h < dh → h / step + 1 < row_count dh step
  inside_count h l =
      by_order (row_count dh step) (h / step + 1)
      (λ m. absurd (omega (arith, at_last dh step p (h / step) m, div-mul-le_self h step)))
      (λ m. m)

  pub inside_above : (h : ℕ) → h < dh → h < row_height dh step (h / step + 1)
  unfolding row_height
  inside_above h l = le-min (omega (arith, lt-div-mul-add {a = h} p)) l

  pub inside_below : (h : ℕ) → row_height dh step (h / step) ≤ h
  inside_below h = le_trans (height_in_steps dh step p (h / step)) (div-mul-le_self h step)

-- no table has more rows than the limits allow
pub few_rows : (dh step : ℕ) → dh ≤ largest → smallest_step ≤ step → row_count dh step ≤ most_rows
few_rows dh step d l =
    by_order (row_count dh step) most_rows (λ m. m)
    (λ m. absurd (omega (arith, before_last dh step (omega arith) (most_rows - 1) (omega arith))))
