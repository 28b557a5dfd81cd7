-- `figures::read_figure` meets its contract. The loop's invariant: the text says what is left of it says after the digits that
-- are read, of which there are at most eight. Assumes nothing.
use Rattle.std.proofs.Common.{◌^◌, ◌≤◌, ◌<◌, ◌≡◌, drop}
use Rattle.figures.specs.Figures.{most_digits, figure_from, figure_of}
use Rattle.figures.proofs.read_figure.Given as goal

abbrev pub invariant-loop-count : goal.invariant-loop-count
invariant-loop-count l =
    (l.count ≤ most_digits) × (l.whole < 10 ^ l.count) × (figure_of l.s ≡ figure_from l.count l.whole (drop l.count l.s))
