-- `capi::milechime_words` meets its contract: there are words exactly when the table is refused. Assumes nothing.
use Rattle.std.proofs.Common.{◌∙◌, ap}
use Rattle.table.specs.Answer.{verdict_on}
use Rattle.answers.specs.Numbers.{words_of}
use Rattle.answers.specs.WordsLaws.{table_words}
use Rattle.capi.proofs.milechime_words.Goals as goal

pub returns-clause-exactly : goal.returns-clause-exactly
returns-clause-exactly c =
    let a = c.args in
    let verdict = c.judged.ensures ∙ ap (λ file. verdict_on file a.table_length) c.decode.ensures.value in
    rw (c.in_words.ensures.value ∙ ap words_of verdict) (table_words a.survey.now a.table_length)
