-- The largest lengths of a tank's cylinders, in u (document 01, 'The survey file', bytes 8 and 20). Assumes nothing.
use Rattle.std.specs.Prelude.{ℕ}

abbrev pub longest_shell : ℕ
longest_shell = 3000000

-- of one flange
abbrev pub longest_flange : ℕ
longest_flange = 20000
