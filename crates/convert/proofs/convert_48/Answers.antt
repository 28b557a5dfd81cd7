-- `convert::convert_48` meets its contract: by the verdict on the old file and its rows. Assumes nothing.
use Rattle.std.specs.Prelude.{Result}
use Rattle.std.proofs.Common.{◌≡◌, sym, ◌∙◌, ap, List, ℕ}
use Rattle.std.proofs.lemmas.Result.{err_from_is_err_and}
use Rattle.schedule.specs.Rows.{most_rows}
use Rattle.refusal.specs.declared.Refusal.{Refusal}
use Rattle.table.specs.Answer.{verdict_on}
use Rattle.convert.specs.declared.Converted.{Converted}
use Rattle.convert.specs.Converted.{converted, Keeps}
use Rattle.convert.specs.ConvertedLaws.{old_passes, converted_keeps}
use Rattle.convert.proofs.convert_48.Goals as goal

pub written-requires : goal.written-requires
written-requires c =
    old_passes c.args.survey.now (sym (c.in_ok-judged.ensures ∙ ap (λ file. verdict_on file most_rows) c.decode_48.ensures.value))

pub returns-in_err-judged-clause-value : goal.returns-in_err-judged-clause-value
unfolding converted
returns-in_err-judged-clause-value c =
    let p = err_from_is_err_and c.from_residual.result c.from_residual.ensures.1 in
    rw (p.1, p.2, sym (c.in_err-judged.ensures ∙ ap (λ file. verdict_on file most_rows) c.decode_48.ensures.value))

kept : (s : List ℕ) {r : Result Converted Refusal} → r ≡ converted s → Keeps s r
kept s is = rw is (converted_keeps s)

pub returns-in_err-judged-clause-keeps : goal.returns-in_err-judged-clause-keeps
returns-in_err-judged-clause-keeps c = kept c.args.survey.now (returns-in_err-judged-clause-value c)

pub returns-clause-value : goal.returns-clause-value
unfolding converted
returns-clause-value c =
    rw (sym (c.in_ok-judged.ensures ∙ ap (λ file. verdict_on file most_rows) c.decode_48.ensures.value), c.written.ensures)

pub returns-clause-keeps : goal.returns-clause-keeps
returns-clause-keeps c = kept c.args.survey.now (returns-clause-value c)
