-- Where the records of a section lie: which they are, how many, from which byte on, and how long each is. Assumes nothing.
use Rattle.std.specs.Prelude.{ℕ}
use Rattle.file.specs.declared.section.Records.{Records}

pub record Place : Type 0 where
  pub records : Records
  pub count : ℕ
  pub offset : ℕ
  pub size : ℕ
