-- The tests of a table look at nothing but the rows, in memory or not, and their numbers are in use; and what they say where they refuse nothing: no
-- row falls, and none is below zero, though none is tested for that. Assumes nothing.
use Rattle.std.specs.Prelude.{ℕ, zero, suc, ◌-◌, ◌≤◌, ◌<◌, ◌≡◌, refl, true, List, [], ◌++◌, length, leb, ℤ, pos, negsuc, nat_abs, drop, Ok, Err}
use Rattle.std.proofs.Common.{sym, ap, arith, append-nil, le-leb, leb-true}
use Rattle.std.specs.Int.Signed.{le_z, non_neg}
use Rattle.laws.specs.Fill.{rows_of}
use Rattle.laws.specs.FillLaws.{length_rows_of, rows_of_agree}
use Rattle.laws.specs.BoolLaws.{true_not_false}
use Rattle.measure.specs.Quantity.{diameter_units}
use Rattle.schedule.specs.Rows.{row_count, row_height}
use Rattle.refusal.specs.declared.Refusal.{Refusal}
use Rattle.refusal.specs.Test.{about, verdict, items, Verdict}
use Rattle.refusal.specs.TestLaws.{passed_pick, passed_items, passed_all, items_agree}
use Rattle.refusal.specs.EachLaws.{each_item, refused_each}
use Rattle.sentences.specs.Sentences.{of_falling_row, told}
use Rattle.sentences.specs.KnownLaws.{Known, KnownIn}
use Rattle.sentences.proofs.KnownLaws.{verdict_known}
use Rattle.survey.specs.declared.decode.Survey.{Survey}
use Rattle.rows.specs.Rows.{rows_in, height_of, net_row, cell_of}
use Rattle.rows.specs.RowLaws.{net_of, cell_in, front_row, row_0_not_below_zero}
use Rattle.row_tests.specs.Tests.{keeps_up, fall_test, row_tests, table_tests}
use Rattle.row_tests.specs.Left.{left_by}

-- as the code tests them
pub keeps_up_before : (row : ℕ → ℤ) (i : ℕ) → (i ≡ 0 → ⊥) → keeps_up row i ≡ le_z (row (i - 1)) (row i)
keeps_up_before row zero h = absurd (h refl)
keeps_up_before row (suc i) h = let same : suc i - 1 ≡ i = omega arith in rw same

-- a lent table that is long enough leaves the falls ..
pub room_enough : (row : ℕ → ℤ) (height : ℕ → ℕ) (rows cells : ℕ) → rows ≤ cells
    → verdict (row_tests row height rows cells) ≡ verdict (items rows (fall_test row height))
unfolding row_tests
room_enough row height rows cells room = rw (le-leb rows cells room)

-- .. and where nothing is refused it is
pub room_told : (row : ℕ → ℤ) (height : ℕ → ℕ) (rows cells : ℕ) → verdict (row_tests row height rows cells) ≡ Ok tt → rows ≤ cells
unfolding row_tests
room_told row height rows cells e = leb-true rows cells (passed_pick (leb rows cells) (verdict (items rows (fall_test row height))) _ e).0

-- rows that agree have the same tests

falls_agree : (n : ℕ) (row row' : ℕ → ℤ) (height : ℕ → ℕ) → ((i : ℕ) → i < n → row i ≡ row' i)
    → (i : ℕ) → i < n → fall_test row height i ≡ fall_test row' height i
falls_agree n row row' height h zero l = refl
falls_agree n row row' height h (suc i) l = rw (h i (omega arith), h (suc i) l)

pub front_tests : (f : ℕ → ℤ) (height : ℕ → ℕ) (n : ℕ) (rest : List ℤ) (cells : ℕ)
    → row_tests (net_of (rows_of f n ++ rest)) height n cells ≡ row_tests f height n cells
unfolding row_tests
front_tests f height n rest cells =
    let row = net_of (rows_of f n ++ rest) in
    rw (items_agree n (fall_test row height) (fall_test f height) (falls_agree n row f height (front_row f n rest)))

-- the cells of rows at the front of a list in memory are those of the rows
pub front_left : (v : Verdict) (f : ℕ → ℤ) (n : ℕ) (rest : List ℤ) (table : List ℕ)
    → left_by v (cell_in (rows_of f n ++ rest)) n table ≡ left_by v (λ i. nat_abs (f i)) n table
front_left (Ok tt) f n rest table =
    ap (λ l. l ++ drop n table) (rows_of_agree (cell_in (rows_of f n ++ rest)) (λ i. nat_abs (f i)) n (λ i l. ap nat_abs (front_row f n rest i l)))
front_left (Err r) f n rest table = refl

-- the same of rows that are a list's all
module _ (f : ℕ → ℤ) (n : ℕ) where
  pub memory_tests : (height : ℕ → ℕ) (cells : ℕ) → row_tests (net_of (rows_of f n)) height (length (rows_of f n)) cells ≡ row_tests f height n cells
  memory_tests height cells = rw (length_rows_of f n) (rw (append-nil (rows_of f n)) at (front_tests f height n [] cells))

  pub memory_left : (v : Verdict) (table : List ℕ) → left_by v (cell_in (rows_of f n)) (length (rows_of f n)) table ≡ left_by v (λ i. nat_abs (f i)) n table
  memory_left v table = rw (length_rows_of f n) (rw (append-nil (rows_of f n)) at (front_left v f n [] table))

-- a survey's net rows at the front of a memory, by a schedule that is the survey's, are tested and left as the survey's
module _ (v : Survey) {net : List ℤ} (rest : List ℤ) {dh step : ℕ} (held : net ≡ rows_of (net_row v) (rows_in v) ++ rest) (top : dh ≡ diameter_units v.tank.dh) (apart : step ≡ v.step) where
  pub held_tests : (cells : ℕ) → verdict (row_tests (net_of net) (row_height dh step) (row_count dh step) cells) ≡ verdict (table_tests v cells)
  held_tests cells = rw (held, top, apart) (ap verdict (front_tests (net_row v) (height_of v) (rows_in v) rest cells))

  pub held_left : (w : Verdict) (table : List ℕ) → left_by w (cell_in net) (row_count dh step) table ≡ left_by w (cell_of v) (rows_in v) table
  held_left w table = rw (held, top, apart) (front_left w (net_row v) (rows_in v) rest table)

-- every refusal of rows has a number in use and a sentence
pub rows_known : (v : Survey) (cells : ℕ) → KnownIn (verdict (table_tests v cells))
unfolding row_tests told
rows_known v cells = verdict_known (table_tests v cells) (refl, each_item Known (rows_in v) (fall_test (net_row v) (height_of v)) (λ i l. (refl, tt)))

-- refusal 9 is about the row that is its place, and that row's height

abbrev FallTold : Survey → Refusal → Type 0
FallTold v r = r.number ≡ 9 → r.about ≡ about of_falling_row r.place (height_of v r.place) 0 0

pub fall_told : (v : Survey) (cells : ℕ) (r : Refusal) → verdict (table_tests v cells) ≡ Err r → FallTold v r
unfolding row_tests
fall_told v cells =
    refused_each (FallTold v) (table_tests v cells)
    (λ e. absurd (omega arith), each_item (FallTold v) (rows_in v) (fall_test (net_row v) (height_of v)) (λ i l. (λ e. refl, tt)))

not_below_zero_again : (y z : ℤ) → non_neg y ≡ true → le_z y z ≡ true → non_neg z ≡ true
not_below_zero_again (pos m) (pos n) a e = refl
not_below_zero_again (pos m) (negsuc n) a e = absurd (true_not_false (sym e))
not_below_zero_again (negsuc m) z a e = absurd (true_not_false (sym a))

-- of a table that is made, no net row is below the row before ..
module _ (v : Survey) (cells : ℕ) (e : verdict (table_tests v cells) ≡ Ok tt) where
  pub none_falls : (i : ℕ) → i < rows_in v → keeps_up (net_row v) i ≡ true
  unfolding row_tests
  none_falls i l =
      let rows = (passed_pick (leb (rows_in v) cells) (verdict (items (rows_in v) (fall_test (net_row v) (height_of v)))) _ e).1 in
      (passed_all (fall_test (net_row v) (height_of v) i) (passed_items (rows_in v) (fall_test (net_row v) (height_of v)) rows i l)).0

  -- .. and none below zero: it would have fallen, or be row 0
  pub none_below_zero : (i : ℕ) → i < rows_in v → non_neg (net_row v i) ≡ true
  none_below_zero zero l = row_0_not_below_zero v
  none_below_zero (suc i) l =
      not_below_zero_again (net_row v i) (net_row v (suc i)) (none_below_zero i (omega arith)) (none_falls (suc i) l)
