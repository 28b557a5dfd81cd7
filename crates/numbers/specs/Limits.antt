-- The limits of the file's numbers (document 01, 'The survey file') that belong to the file alone. Those of diameters, steps, parts,
-- heads and deadwood stand in their own rooms. Assumes nothing.
use Rattle.std.specs.Prelude.{ℕ}

-- an outer circumference, wherever it was taken
abbrev pub shortest_circumference : ℕ
shortest_circumference = 150000

abbrev pub longest_circumference : ℕ
longest_circumference = 1600000

abbrev pub shortest_shell : ℕ
shortest_shell = 100000

abbrev pub shortest_course : ℕ
shortest_course = 1

abbrev pub thinnest : ℕ
thinnest = 100

abbrev pub thickest : ℕ
thickest = 5000
