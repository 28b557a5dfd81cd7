-- How many bytes were moved, and whether that is all. Which bytes a call of the system's moved, no contract can say. Assumes nothing.
use Rattle.std.specs.Prelude.{ℕ, ◌≤◌, ◌≡◌, eqb, min, is_ok, IsOk, Result, Ok, Err}
use Rattle.std.specs.declared.io.Error.{Error}
use Rattle.streams.specs.declared.Moved.{Moved}

-- what a call that was lent n bytes answered: that it failed and why, or how many it moved
abbrev pub told_of : Result ℕ Error → ℕ → Moved
told_of (Ok m) n = record { count = min m n; end = Ok tt }
told_of (Err e) n = record { count = 0; end = Err e }

-- of n bytes to write: no more were written than there are, and it ended well exactly where all were
pub record Written (n : ℕ) (r : Moved) : Type 0 where
  pub within : r.count ≤ n
  pub whole : is_ok r.end ≡ eqb r.count n

-- of a read into n bytes: where it filled them, it ended well
abbrev pub WholeIfFull : ℕ → Moved → Type 0
WholeIfFull n r = r.count ≡ n → IsOk r.end
