-- `capi::milechime_convert_words` meets its contract: there are words exactly when the conversion is refused. Assumes nothing.
use Rattle.std.proofs.Common.{◌≡◌, ◌∙◌, ap, eq-eqb, ne_eqb}
use Rattle.schedule.specs.Rows.{most_rows}
use Rattle.file.specs.Format.{format48}
use Rattle.table.specs.Answer.{verdict_on}
use Rattle.answers.specs.Numbers.{words_about, words_of, conversion_words}
use Rattle.answers.specs.WordsLaws.{conversion_words_law}
use Rattle.capi.proofs.milechime_convert_words.Goals as goal

pub returns-then-header-old-clause-exactly : goal.returns-then-header-old-clause-exactly
returns-then-header-old-clause-exactly c =
    let a = c.args in
    let is : c.in_words.result ≡ conversion_words a.header a.survey.now =
    rw (eq-eqb a.header format48.header c.if-header-old.true)
    (c.in_words.ensures.value ∙ ap words_of (c.judged.ensures ∙ ap (λ file. verdict_on file most_rows) c.decode_48.ensures.value)) in
    rw is (conversion_words_law a.header a.survey.now)

pub returns-clause-exactly : goal.returns-clause-exactly
returns-clause-exactly c =
    let a = c.args in
    let is : c.words_about.result ≡ conversion_words a.header a.survey.now =
    rw (ne_eqb a.header format48.header c.if-header-old.false) (c.words_about.ensures.value ∙ ap words_about (rw (c.new.ensures.start, c.new.ensures.end) at c.about_of.ensures)) in
    rw is (conversion_words_law a.header a.survey.now)
