-- `survey::decode::items` meets its contract. The loop's invariant: the array holds the items read so far, and behind them items
-- that take nothing. Assumes nothing.
use Rattle.std.proofs.Common.{◌≡◌}
use Rattle.laws.specs.FillLaws.{Filled}
use Rattle.file.specs.Section.{record_at}
use Rattle.records.specs.Item.{item_from}
use Rattle.survey.specs.Held.{no_items}
use Rattle.survey.proofs.decode.items.Given as goal

abbrev pub invariant-loop-i : goal.invariant-loop-i
invariant-loop-i l = (l.initial.list ≡ no_items) × Filled l.initial.list (λ k. item_from l.s (record_at l.x k)) l.i l.list
