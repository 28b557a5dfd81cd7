-- A lookup on a survey's own table is never refused for the table (refusal 11): every height up to DH, every volume up to the last
-- row and every delivery between such heights is answered; and what is answered, in hand or from the file, said outright. Assumes nothing.
use Rattle.survey.specs.Survey.{survey_in, Decoded}
use Rattle.std.specs.Prelude.{ℕ, zero, suc, ◌-◌, ◌≤◌, ◌<◌, ◌≡◌, refl, true, List, leb, ℤ, pos, negsuc, nat_abs, ◌-ℤ◌, length, Result, Ok, Err}
use Rattle.std.proofs.Common.{sym, ◌∙◌, ap, arith}
use borrow.Author.Tests.{le-leb, eq-eqb}
use Rattle.std.specs.Int.Signed.{le_z, non_neg}
use Rattle.laws.specs.FillLaws.{length_rows_of, get_or_rows_of}
use Rattle.laws.specs.BoolLaws.{true_not_false}
use Rattle.laws.specs.Exactly.{Exactly}
use Rattle.laws.specs.ExactlyLaws.{exactly_when}
use Rattle.laws.specs.SearchLaws.{every_each}
use Rattle.measure.specs.Quantity.{diameter_units, dip_height, volume}
use Rattle.refusal.specs.declared.Refusal.{Refusal}
use Rattle.refusal.specs.Test.{refusal, verdict, Verdict, verdict_in}
use Rattle.refusal.specs.TestLaws.{passed_both}
use Rattle.schedule.specs.Rows.{most_rows}
use Rattle.survey.specs.declared.decode.Survey.{Survey}
use Rattle.survey.specs.SurveyLaws.{WithinLimits}
use Rattle.rows.specs.Rows.{rows_in, net_row, cell_of, table_of}
use Rattle.row_tests.specs.Tests.{table_tests}
use Rattle.row_tests.specs.RowTestLaws.{none_falls, none_below_zero}
use Rattle.table.specs.Answer.{verdict_on}
use Rattle.lookup.specs.Table.{row, last_row, keeps_up, never_falls, sound_table}
use Rattle.lookup.specs.Litres.{litres}
use Rattle.lookup.specs.Height.{height_for}
use Rattle.lookup.specs.Answer.{too_much, litres_answer, height_answer, LitresAnswer, HeightAnswer}
use Rattle.lookup.proofs.AnswerLaws.{read_off, reached_answer, refused_too_much, read_off_only, reached_only}
use Rattle.lookup.specs.Delivered.{delivered_answer, DeliveredAnswer}
use Rattle.lookup.proofs.DeliveredLaws.{delivered_inside, read_off_both, read_off_both_only}
use Rattle.survey_lookup.specs.declared.Tabled.{Tabled}
use Rattle.survey_lookup.specs.TabledLaws.{answer_in_file}
use Rattle.survey_lookup.specs.Answer.{answer_by, answer_in, answer_from, AsFromFile, litres_in, litres_from, ReadOffOwn}
use Rattle.survey_lookup.specs.Answer.{height_in, height_from, ReachedOwn, delivered_in, delivered_from, ReadOffBothOwn}

-- rows that are not below zero keep their order as cells
cells_keep_up : (y z : ℤ) → non_neg y ≡ true → non_neg z ≡ true → le_z y z ≡ true → leb (nat_abs y) (nat_abs z) ≡ true
cells_keep_up (pos m) (pos n) a b e = e
cells_keep_up (negsuc m) z a b e = absurd (true_not_false (sym a))
cells_keep_up (pos m) (negsuc n) a b e = absurd (true_not_false (sym b))

module _ (file : Decoded) (cells : ℕ) (within : WithinLimits file) (made : verdict_on file cells ≡ Ok tt) where
  rows_made : verdict (table_tests (survey_in file) cells) ≡ Ok tt
  rows_made = (passed_both (verdict_in file) (verdict (table_tests (survey_in file) cells)) made).1

  size : length (table_of (survey_in file)) ≡ rows_in (survey_in file)
  size = length_rows_of (cell_of (survey_in file)) (rows_in (survey_in file))

  cell : (i : ℕ) → i < rows_in (survey_in file) → row (table_of (survey_in file)) i ≡ cell_of (survey_in file) i
  cell i l = get_or_rows_of (cell_of (survey_in file)) 0 (rows_in (survey_in file)) i l

  rows_keep_up : (i : ℕ) → i < rows_in (survey_in file) → keeps_up (table_of (survey_in file)) i ≡ true
  rows_keep_up zero l = refl
  rows_keep_up (suc i) l =
      let v = (survey_in file) in
      rw (cell i (omega arith), cell (suc i) l)
      (cells_keep_up (net_row v i) (net_row v (suc i)) (none_below_zero v cells rows_made i (omega arith)) (none_below_zero v cells rows_made (suc i) l) (none_falls v cells rows_made (suc i) l))

  pub own_table_sound : sound_table (diameter_units (survey_in file).tank.dh) (survey_in file).step (table_of (survey_in file)) ≡ true
  unfolding sound_table never_falls
  own_table_sound =
      let v = (survey_in file) in
      let limits = within (passed_both (verdict_in file) (verdict (table_tests v cells)) made).0 in
      rw (
        le-leb _ _ limits.tank.dh_low,
        le-leb _ _ limits.tank.dh_high,
        le-leb _ _ limits.step_low,
        le-leb _ _ limits.step_high,
        eq-eqb _ _ size,
        every_each (length (table_of v)) (keeps_up (table_of v)) (λ i l. rows_keep_up i (omega (arith, size))),
      )

-- a table that is made answers every height up to DH
pub every_height_answered : (file : Decoded) (h : ℕ) → WithinLimits file → verdict_on file most_rows ≡ Ok tt → h ≤ diameter_units (survey_in file).tank.dh
    → litres_from file h ≡ Ok (volume (litres (diameter_units (survey_in file).tank.dh) (survey_in file).step (table_of (survey_in file)) h))
unfolding litres_from litres_answer
every_height_answered file h within made l = rw (made, own_table_sound file most_rows within made, le-leb _ _ l)

-- .. and every volume up to the last row
pub every_volume_answered : (file : Decoded) (w : ℕ) → WithinLimits file → verdict_on file most_rows ≡ Ok tt → w ≤ row (table_of (survey_in file)) (rows_in (survey_in file) - 1)
    → height_from file w ≡ Ok (dip_height (height_for (diameter_units (survey_in file).tank.dh) (survey_in file).step (table_of (survey_in file)) w))
unfolding height_from height_answer
every_volume_answered file w within made l = rw (made, own_table_sound file most_rows within made, le-leb _ _ l)

-- .. every delivery between heights up to DH
pub every_delivery_answered : (file : Decoded) (before after : ℕ) → WithinLimits file → verdict_on file most_rows ≡ Ok tt
    → before ≤ diameter_units (survey_in file).tank.dh → after ≤ diameter_units (survey_in file).tank.dh
    → delivered_from file before after ≡ Ok
    (pos (litres (diameter_units (survey_in file).tank.dh) (survey_in file).step (table_of (survey_in file)) after)
    -ℤ pos (litres (diameter_units (survey_in file).tank.dh) (survey_in file).step (table_of (survey_in file)) before))
unfolding delivered_from
every_delivery_answered file before after within made l m =
    rw made (delivered_inside _ _ _ before after (own_table_sound file most_rows within made) l m)

-- a volume is too much exactly when it is above the last row
pub refused_above_last : (file : Decoded) (w : ℕ) → WithinLimits file → verdict_on file most_rows ≡ Ok tt
    → let last = last_row (diameter_units (survey_in file).tank.dh) (survey_in file).step (table_of (survey_in file)) in
    Exactly (height_from file w ≡ Err (refusal 13 0 (too_much w last))) (last < w)
unfolding height_from
refused_above_last file w within made =
    rw made (exactly_when (refused_too_much _ _ _ w) (λ h. h.1) (λ h. (own_table_sound file most_rows within made, h)))

-- what holds of the lookup on the survey's own table and of every refusal holds of the answer
answered : {A : Type 0} (P : A → Type 0) (refused : Refusal → A) (look : ℕ → ℕ → List ℕ → A) (dh step : ℕ) (rows : List ℕ)
    → P (look dh step rows) → ((r : Refusal) → P (refused r)) → (w : Verdict) → P (answer_by refused look w dh step rows)
answered P refused look dh step rows p q (Ok tt) = p
answered P refused look dh step rows p q (Err r) = q r

-- so an answer on a table in hand tells all that a lookup promises
told : {A : Type 0} (refused : Refusal → A) (look : ℕ → ℕ → List ℕ → A) (Own : Survey → A → Type 0)
    → ((v : Survey) → Own v (look (diameter_units v.tank.dh) v.step (table_of v))) → ((v : Survey) (r : Refusal) → Own v (refused r))
    → (t : Result Tabled Refusal) {r : A} → r ≡ answer_in refused look t → (r ≡ answer_in refused look t) × AsFromFile (answer_from refused look) Own t r
told refused look Own p q t {r} e = (e, as_from)
  where
    as_from : AsFromFile (answer_from refused look) Own t r
    as_from file is =
        let same = e ∙ ap (answer_in refused look) is ∙ answer_in_file refused look file in
        (same, rw same (answered (Own (survey_in file)) refused look _ _ _ (p (survey_in file)) (q (survey_in file)) (verdict_on file most_rows)))

pub litres_in_told : (t : Result Tabled Refusal) (h : ℕ) {r : LitresAnswer} → r ≡ litres_in t h
    → (r ≡ litres_in t h) × AsFromFile (λ file. litres_from file h) (λ v. ReadOffOwn v h) t r
unfolding litres_in litres_from
litres_in_told t h =
    told Err (λ d s rows. litres_answer d s rows h) (λ v. ReadOffOwn v h) (λ v. read_off _ _ _ h) (λ v r. tt) t

pub height_in_told : (t : Result Tabled Refusal) (w : ℕ) {r : HeightAnswer} → r ≡ height_in t w
    → (r ≡ height_in t w) × AsFromFile (λ file. height_from file w) (λ v. ReachedOwn v w) t r
unfolding height_in height_from
height_in_told t w =
    told Err (λ d s rows. height_answer d s rows w) (λ v. ReachedOwn v w) (λ v. reached_answer _ _ _ w) (λ v r. tt) t

pub delivered_in_told : (t : Result Tabled Refusal) (before after : ℕ) {r : DeliveredAnswer} → r ≡ delivered_in t before after
    → (r ≡ delivered_in t before after) × AsFromFile (λ file. delivered_from file before after) (λ v. ReadOffBothOwn v before after) t r
unfolding delivered_in delivered_from
delivered_in_told t before after =
    told Err (λ d s rows. delivered_answer d s rows before after) (λ v. ReadOffBothOwn v before after)
    (λ v. read_off_both _ _ _ before after) (λ v r. tt) t

-- and what is promised leaves no other answer
module _ (v : Survey) where
  pub own_litres_only : (h x : ℕ) → sound_table (diameter_units v.tank.dh) v.step (table_of v) ≡ true → h ≤ diameter_units v.tank.dh
      → ReadOffOwn v h (Ok (volume x)) → x ≡ litres (diameter_units v.tank.dh) v.step (table_of v) h
  own_litres_only h x sound l told = read_off_only (diameter_units v.tank.dh) v.step (table_of v) h x sound l told

  pub own_height_only : (w h : ℕ) → ReachedOwn v w (Ok (dip_height h))
      → height_for (diameter_units v.tank.dh) v.step (table_of v) w ≡ h
  own_height_only w h told = reached_only (diameter_units v.tank.dh) v.step (table_of v) w h told

  pub own_difference_only : (before after : ℕ) (d : ℤ) → sound_table (diameter_units v.tank.dh) v.step (table_of v) ≡ true
      → before ≤ diameter_units v.tank.dh → after ≤ diameter_units v.tank.dh → ReadOffBothOwn v before after (Ok d)
      → delivered_answer (diameter_units v.tank.dh) v.step (table_of v) before after ≡ Ok d
  own_difference_only before after d sound l m told =
      read_off_both_only (diameter_units v.tank.dh) v.step (table_of v) before after d sound l m told
