-- The measure is the number of commas that may still come.
use Rattle.text.proofs.put.Writer.+in_threes.Given as goal

abbrev pub decreases-in_threes : goal.decreases-in_threes
decreases-in_threes l = l.commas
