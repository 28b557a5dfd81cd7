-- The measure is the number: a tenth of it is less.
use Rattle.text.proofs.put.Writer.+digits.Given as goal

abbrev pub decreases-digits : goal.decreases-digits
decreases-digits l = l.n
