-- Net rows: each fits a cell, without deadwood it is the gross row, and that at height 0 is not below zero; and net rows in memory, where rows at the
-- front of a list are those rows. Assumes nothing.
use Rattle.std.specs.Prelude.{ℕ, ◌*◌, ◌^◌, ◌<◌, ◌≡◌, true, List, [], ◌++◌, ℤ, pos, neg_ℤ, nat_abs, ◌-ℤ◌, get_or}
use Rattle.std.proofs.Common.{◌∙◌, zero-mul, arith}
use Rattle.std.proofs.Math.Nat.{min-le_left}
use Rattle.std.proofs.Math.IntN.{+ℤ_idr}
use Rattle.std.proofs.Math.ListN.{get_or-append}
use Rattle.std.specs.Int.Signed.{non_neg}
use Rattle.laws.proofs.SignedLaws.{sum_size, negated_size, nat_abs_at_most}
use Rattle.laws.specs.Fill.{rows_of}
use Rattle.laws.specs.FillLaws.{length_rows_of, get_or_rows_of}
use Rattle.measure.specs.Quantity.{diameter_units}
use Rattle.schedule.specs.Rows.{row_height}
use Rattle.tank.specs.Tank.{gross_at}
use Rattle.tank.specs.TankLaws.{gross_small}
use Rattle.deadwood.specs.ListLaws.{shares_small, no_shares_of_none, no_shares_at_bottom}
use Rattle.survey.specs.declared.decode.Survey.{Survey}
use Rattle.survey.specs.SurveyLaws.{SurveyLimits}
use Rattle.rows.specs.Rows.{shares_at, net_at, height_of, net_row}

-- row i of a list, and the cell that holds it
abbrev pub net_of : List ℤ → ℕ → ℤ
net_of net i = get_or net i (pos 0)

abbrev pub cell_in : List ℤ → ℕ → ℕ
cell_in net i = nat_abs (net_of net i)

-- every net row fits a cell
pub net_small : (v : Survey) (h : ℕ) → SurveyLimits v → nat_abs (net_at v h) < 2 ^ 32
unfolding net_at
net_small v h l =
    let g = gross_at v.tank h in
    let z = shares_at v h in
    omega (
      arith,
      gross_small v.tank h l.tank,
      shares_small v.deadwood h l.items,
      negated_size z,
      sum_size (pos g) (neg_ℤ z),
      nat_abs_at_most (pos g -ℤ z),
    )

-- without deadwood net is gross
pub net_is_gross : (v : Survey) → v.deadwood ≡ [] → (h : ℕ) → net_at v h ≡ pos (gross_at v.tank h)
unfolding net_at
net_is_gross v no_items h = rw (no_items, no_shares_of_none h) (+ℤ_idr _)

-- at height 0 no deadwood item has taken anything
pub row_0_not_below_zero : (v : Survey) → non_neg (net_row v 0) ≡ true
unfolding net_at row_height
row_0_not_below_zero v =
    let bottom : height_of v 0 ≡ 0 = omega (arith, min-le_left (0 * v.step) (diameter_units v.tank.dh), zero-mul v.step) in
    rw (bottom, no_shares_at_bottom v.deadwood)

-- rows at the front of a list in memory are those rows
pub front_row : (f : ℕ → ℤ) (n : ℕ) (rest : List ℤ) (i : ℕ) → i < n → net_of (rows_of f n ++ rest) i ≡ f i
front_row f n rest i l =
    get_or-append (rows_of f n) rest (pos 0) i (omega (arith, length_rows_of f n)) ∙ get_or_rows_of f (pos 0) n i l
