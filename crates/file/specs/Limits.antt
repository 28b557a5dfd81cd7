-- How large a file can be and how many courses it can have (document 01, 'The survey file'). Assumes nothing.
use Rattle.std.specs.Prelude.{ℕ}

-- a file's size in bytes
abbrev pub largest_file : ℕ
largest_file = 65536

abbrev pub most_courses : ℕ
most_courses = 40
