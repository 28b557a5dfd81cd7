-- `dimensions::sums::file_sums` meets its contract. The loop's invariant: the sums are those over the courses passed. Assumes nothing.
use Rattle.std.proofs.Common.{◌≡◌}
use Rattle.dimensions.specs.Dimensions.{sums_over}
use Rattle.dimensions.proofs.sums.file_sums.Given as goal

abbrev pub invariant-loop-i : goal.invariant-loop-i
invariant-loop-i l = l.t ≡ sums_over l.f l.s l.i
