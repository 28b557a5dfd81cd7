-- Laws of litres at a height: at each row's height they are that row, between two rows they are on their line, and they never fall.
-- Assumes nothing.
use Rattle.std.specs.Prelude.{ℕ, zero, suc, ◌+◌, ◌*◌, ◌-◌, ◌/◌, ◌≤◌, ◌<◌, ◌≡◌, refl, List, eqb}
use Rattle.std.proofs.Common.{sym, ◌∙◌, le_refl, le_trans, mul-div_cancel, div-mul-le_self, add-one}
use Rattle.std.proofs.Math.Nat.{div-eq_of_lt-le}
use native.Mathlib.Omega.{arith}
use borrow.Author.Tests.{eq-eqb, eqb-true}
use Rattle.laws.specs.OrderLaws.{by_order}
use Rattle.laws.specs.BoolLaws.{by_test}
use Rattle.schedule.specs.Rows.{row_count, row_height, row_below}
use Rattle.schedule.specs.RowsLaws.{before_last, count_pos, height_before_last, height_at_last, height_at_most, heights_rise, below_top, below_inside, inside_count, inside_above, inside_below, height_in_steps}
use Rattle.lookup.specs.Table.{row}
use Rattle.lookup.specs.TableLaws.{SoundTable}
use Rattle.lookup.proofs.LineLaws.{by_both, line_at_lower, line_at_upper, line_at_least, line_at_most, line_rises}
use Rattle.lookup.specs.Litres.{above, litres, BetweenRows, OnTable}

module _ (dh step : ℕ) (table : List ℕ) (s : SoundTable dh step table) where
  step_pos : 0 < step
  step_pos = omega (arith, s.step_low)

  gap_pos : (i : ℕ) → i + 1 < row_count dh step → 0 < row_height dh step (i + 1) - row_height dh step i
  gap_pos i l = omega (arith, heights_rise dh step step_pos i l)

  -- at the height of the row below, the row itself
  at_row : (h i : ℕ) → row_below dh step h ≡ i → row_height dh step i ≡ h → litres dh step table h ≡ row table i
  unfolding litres
  at_row h i e f = rw (e, eq-eqb (row_height dh step i) h f)

  pub litres_at_row : (i : ℕ) → i < row_count dh step → litres dh step table (row_height dh step i) ≡ row table i
  litres_at_row i l =
      by_order (row_count dh step) (i + 1)
      (λ m.
      let top = height_at_last dh step step_pos i m in
      at_row (row_height dh step i) i (rw top (below_top dh step step_pos ∙ omega arith)) refl)
      (λ m.
      let here = height_before_last dh step step_pos i m in
      at_row (row_height dh step i) i
      (rw here (below_inside dh step step_pos (i * step) (before_last dh step step_pos i m) ∙ mul-div_cancel i step_pos)) refl)

  -- below DH, on the line from the row below
  pub litres_inside : (h : ℕ) → h < dh → litres dh step table h ≡ above dh step table (h / step) h
  unfolding litres
  litres_inside h l =
      let i = h / step in
      rw (below_inside dh step step_pos h l)
      (by_test (eqb (row_height dh step i) h)
      (λ e.
      let here = eqb-true (row_height dh step i) h e in
      let nothing : h - row_height dh step i ≡ 0 = omega arith in
      rw (e, nothing) (sym (line_at_lower (row table i) (row table (i + 1)) _ (gap_pos i (inside_count dh step step_pos h l)))))
      (λ e. rw e))

  -- between two neighbour rows, on the line from the lower
  litres_between : (i h : ℕ) → i + 1 < row_count dh step → row_height dh step i ≤ h → h ≤ row_height dh step (i + 1)
      → litres dh step table h ≡ above dh step table i h
  litres_between i h m low high =
      by_order (row_height dh step (i + 1)) h
      (λ reached.
      let upper : row_height dh step (i + 1) ≡ h = omega arith in
      rw (← upper) (litres_at_row (i + 1) m ∙ sym (line_at_upper (row table i) (row table (i + 1)) _ (gap_pos i m))))
      (λ inside.
      let here = height_before_last dh step step_pos i m in
      let same : h / step ≡ i = div-eq_of_lt-le step (omega arith) (omega (arith, height_in_steps dh step step_pos (i + 1))) in
      rw (litres_inside h (omega (arith, height_at_most dh step step_pos (i + 1))), same))

  between_rows : (i h : ℕ) → i + 1 < row_count dh step → row_height dh step i ≤ h → h ≤ row_height dh step (i + 1)
      → BetweenRows (row table i) (row table (i + 1)) (h - row_height dh step i) (row_height dh step (i + 1) - h) (litres dh step table h)
  between_rows i h m low high =
      let a = row table i in
      let b = row table (i + 1) in
      let x = h - row_height dh step i in
      let y = row_height dh step (i + 1) - h in
      let gap : row_height dh step (i + 1) - row_height dh step i ≡ x + y = omega arith in
      let some = gap_pos i m in
      rw (litres_between i h m low high) (record {
        on_line = rw gap (by_both a b x y (x + y) refl);
        at_least = line_at_least a b _ some (s.keeps_up i m) x (omega arith);
        at_most = line_at_most a b _ some (s.keeps_up i m) x (omega arith);
      })

  -- litres never fall: one unit up ..
  litres_next : (h : ℕ) → h < dh → litres dh step table h ≤ litres dh step table (h + 1)
  litres_next h l =
      let i = h / step in
      let m = inside_count dh step step_pos h l in
      let low = inside_below dh step step_pos h in
      let high = inside_above dh step step_pos h l in
      let rises = s.keeps_up i m in
      let gap = gap_pos i m in
      by_order (row_height dh step (i + 1)) (h + 1)
      (λ reached.
      let upper : row_height dh step (i + 1) ≡ h + 1 = omega arith in
      rw (litres_inside h l, ← upper, litres_at_row (i + 1) m)
      (line_at_most (row table i) (row table (i + 1)) _ gap rises (h - row_height dh step i) (omega arith)))
      (λ inside.
      let same : (h + 1) / step ≡ i = div-eq_of_lt-le step (omega (arith, div-mul-le_self h step)) (omega (arith, height_in_steps dh step step_pos (i + 1))) in
      let further : h + 1 - row_height dh step i ≡ h - row_height dh step i + 1 = omega arith in
      rw (litres_inside h l, litres_inside (h + 1) (omega (arith, height_at_most dh step step_pos (i + 1))), same, further)
      (line_rises (row table i) (row table (i + 1)) _ gap rises (h - row_height dh step i) (omega arith)))

  -- .. and so all the way
  pub litres_mono : (h h' : ℕ) → h ≤ h' → h' ≤ dh → litres dh step table h ≤ litres dh step table h'
  litres_mono h zero l m = let bottom : h ≡ 0 = omega arith in rw bottom (le_refl _)
  litres_mono h (suc h') l m =
      by_order h h'
      (λ k. le_trans (litres_mono h h' k (omega arith)) (rw add-one at (litres_next h' m)))
      (λ k. let same : h ≡ suc h' = omega arith in rw same (le_refl _))

  pub litres_at_top : litres dh step table dh ≡ row table (row_count dh step - 1)
  litres_at_top =
      let last = height_at_last dh step step_pos (row_count dh step - 1) (omega arith) in
      rw last at (litres_at_row (row_count dh step - 1) (omega (arith, count_pos dh step step_pos)))

  -- all that is said outright
  pub on_table : (h : ℕ) → h ≤ dh → OnTable dh step table h (litres dh step table h)
  on_table h l = record {
    at_row = λ i m e. rw (← e) (litres_at_row i m);
    between = λ i m low high. between_rows i h m low high;
    no_less_above = λ higher m n. litres_mono h higher m n;
    no_more_below = λ lower m. litres_mono lower h m l;
  }

  -- .. and each part of it leaves no other volume: that litres never fall, at a row, and between two rows
  pub never_falls_only : (h v : ℕ) → h ≤ dh → OnTable dh step table h v → v ≡ litres dh step table h
  never_falls_only h v l on = omega (arith, on.no_less_above h (le_refl h) l, on.no_more_below h (le_refl h))

  pub at_row_only : (i v : ℕ) → i < row_count dh step → OnTable dh step table (row_height dh step i) v → v ≡ litres dh step table (row_height dh step i)
  at_row_only i v m on = on.at_row i m refl ∙ sym (litres_at_row i m)

  pub between_only : (i h v : ℕ) → i + 1 < row_count dh step → row_height dh step i ≤ h → h ≤ row_height dh step (i + 1) → OnTable dh step table h v
      → v ≡ litres dh step table h
  between_only i h v m low high on = (on.between i m low high).on_line ∙ sym (between_rows i h m low high).on_line

-- between equal rows there is one volume
pub between_equal_rows : (a x y v : ℕ) → BetweenRows a a x y v → v ≡ a
between_equal_rows a x y v between = omega (arith, between.at_least, between.at_most)
