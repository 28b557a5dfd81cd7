-- `text::put::Writer::bytes` meets its contract. The loop's invariant: the bytes passed are put. Assumes nothing.
use Rattle.std.proofs.Common.{take}
use Rattle.text.specs.Wrote.{Wrote}
use Rattle.text.proofs.put.Writer.bytes.Given as goal

abbrev pub invariant-loop-b : goal.invariant-loop-b
invariant-loop-b l = Wrote (take l.b-index l.s) l.initial.self l.self
