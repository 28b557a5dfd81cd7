-- A shell height and the number of u that it holds. Assumes nothing.
use Rattle.std.specs.Prelude.{ℕ}
use Rattle.correction.specs.declared.shell_height.ShellHeight.{ShellHeight}

abbrev pub shell_height : ℕ → ShellHeight
shell_height n = record { 0 = n }

abbrev pub shell_units : ShellHeight → ℕ
shell_units h = h.0
