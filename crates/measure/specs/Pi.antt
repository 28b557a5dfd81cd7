-- Where pi is needed for a result it is 355/113 (document 01). Assumes nothing.
use Rattle.std.specs.Prelude.{ℕ}

abbrev pub pi_over : ℕ
pi_over = 355

abbrev pub pi_under : ℕ
pi_under = 113
