-- A lent table that is too short is refused. Assumes nothing.
use Rattle.std.specs.Prelude.{Err}
use Rattle.std.proofs.Common.{ℕ, ◌<◌, ◌≡◌, ℤ}
use Rattle.std.proofs.lemmas.Bool.{lt-leb}
use Rattle.refusal.specs.Test.{refusal, about, verdict}
use Rattle.sentences.specs.Sentences.{of_lent_table}
use Rattle.row_tests.specs.Tests.{row_tests}

pub room_short : (row : ℕ → ℤ) (height : ℕ → ℕ) (rows cells : ℕ) → cells < rows
    → verdict (row_tests row height rows cells) ≡ Err (refusal 8 0 (about of_lent_table 0 0 0 0))
unfolding row_tests
room_short row height rows cells short = rw (lt-leb rows cells short)
