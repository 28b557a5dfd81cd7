-- What the programs say of a file: its table, or the file that it is converted to; or its refusal. Assumes nothing.
use Rattle.std.specs.Prelude.{ℕ, List, Result}
use Rattle.refusal.specs.declared.Refusal.{Refusal}
use Rattle.convert.specs.declared.Converted.{Converted}
use Rattle.convert.specs.Converted.{file_in}
use Rattle.survey_lookup.specs.declared.Tabled.{Tabled}
use Rattle.said.specs.Said.{answer_text, whole_text}

abbrev pub table_text : Result Tabled Refusal → List ℕ
table_text table = answer_text (λ t. whole_text t.dh t.step t.table t.rows) table

-- an old file converted: its bytes, and nothing beside them
abbrev pub conversion_text : Result Converted Refusal → List ℕ
conversion_text conversion = answer_text file_in conversion
