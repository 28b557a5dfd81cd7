-- `text::put::Writer::in_threes` meets its contract: what stands before the last comma, the comma and three digits. Assumes nothing.
use Rattle.std.proofs.Common.{arith, inl, inr}
use Rattle.text.specs.WroteLaws.{wrote_both}
use Rattle.text.specs.GroupedLaws.{in_threes_none, in_threes_below, in_threes_more}
use Rattle.text.proofs.put.Writer.+in_threes.Goals as goal

pub returns-then-commas-eq0 : goal.returns-then-commas-eq0
returns-then-commas-eq0 t c =
    elim c.then-commas-eq0.either [
      | inl none ↦ rw (in_threes_none c.args.commas c.args.n none) c.digits.ensures
      | inr few ↦ rw (in_threes_below c.args.commas c.args.n few.1) c.digits.ensures
    ]

pub returns : goal.returns
returns t c =
    rw (in_threes_more c.args.commas c.args.n (omega arith) (omega arith))
    (wrote_both (wrote_both c.in_threes.ensures c.byte.ensures) c.three_digits.ensures)
