-- `row_tests::copy::test_and_copy` meets its contract: the rows are copied where the verdict on them refuses nothing. Assumes nothing.
use Rattle.std.proofs.Common.{◌≡◌, refl, sym, ◌∙◌, ap, ℕ, List, ℤ, pos, take, arith, length-take-le}
use Rattle.std.proofs.lemmas.List.{get_or-take}
use Rattle.std.specs.Prelude.{nat_abs}
use Rattle.laws.specs.Fill.{rows_of}
use Rattle.laws.specs.FillLaws.{rows_of_agree}
use Rattle.rows.specs.RowLaws.{cell_in}
use Rattle.row_tests.specs.RowTestLaws.{room_told}
use Rattle.row_tests.proofs.copy.test_and_copy.Goals as goal

-- the cells of a memory's front are the memory's
front_cells : (net : List ℤ) (n : ℕ) → rows_of (cell_in (take n net)) n ≡ rows_of (cell_in net) n
front_cells net n = rows_of_agree (cell_in (take n net)) (cell_in net) n (λ i l. ap nat_abs (get_or-take n net i (pos 0) l))

pub copy_rows-requires : goal.copy_rows-requires
copy_rows-requires c =
    let net = c.args.net.now in
    let n = c.rows-rows.result in
    let counted = c.rows-rows.ensures.value in
    let size = length-take-le n net (omega (arith, counted, c.requires.0)) in (
      omega (arith, size, counted, room_told _ _ _ _ (sym c.in_ok-rows_tested.ensures)),
      λ i l. rw (get_or-take n net i (pos 0) (omega (arith, l, size))) (c.requires.2 i (omega (arith, l, size, counted))),
    )

pub returns-clause-table_after : goal.returns-clause-table_after
returns-clause-table_after c =
    let net = c.args.net.now in
    let n = c.rows-rows.result in
    let counted = c.rows-rows.ensures.value in
    let size = length-take-le n net (omega (arith, counted, c.requires.0)) in
    rw (← counted) (c.copy_rows.ensures ∙ rw (size, front_cells net n) refl)
