-- Words come exactly when there is a refusal, and are about the test that gave it. Assumes nothing.
use Rattle.refusal.specs.Test.{Verdict}
use Rattle.std.specs.Prelude.{ℕ, ◌≡◌, refl, List, [], ◌∷◌, eqb, length, Ok, Err}
use Rattle.std.proofs.Common.{sym, ◌∙◌, ap, arith, eqb-true, eq-eqb}
use Rattle.laws.specs.BoolLaws.{by_test, true_not_false}
use Rattle.laws.specs.Exactly.{Exactly}
use Rattle.laws.specs.ExactlyLaws.{exactly_when}
use Rattle.schedule.specs.Rows.{most_rows}
use Rattle.refusal.specs.declared.Refusal.{Refusal}
use Rattle.refusal.specs.TestLaws.{refused_not_passed}
use Rattle.sentences.specs.Sentences.{told, words}
use Rattle.sentences.proofs.SentencesLaws.{told_words}
use Rattle.sentences.specs.KnownLaws.{KnownIn}
use Rattle.sentences.proofs.KnownLaws.{known_words}
use Rattle.file.specs.declared.format.Format.{Format}
use Rattle.file.specs.Format.{format48, today}
use Rattle.survey.specs.Survey.{decoded_as, decoded, survey_in}
use Rattle.survey.specs.KnownLaws.{refused_by_its_test}
use Rattle.row_tests.specs.Tests.{table_tests}
use Rattle.table.specs.Answer.{verdict_on, made}
use Rattle.table.specs.KnownLaws.{refusal_known}
use Rattle.convert.specs.Converted.{converted}
use Rattle.answers.specs.Numbers.{table_numbers, converted_numbers, words_about, words_of, conversion_words}
use Rattle.answers.specs.RefusalLaws.{table_answered, convert_accepted}

no_words : (ws : List ℕ) → length ws ≡ 0 → ws ≡ []
no_words [] e = refl
no_words (w ∷ ws) e = absurd (omega arith)

-- a verdict has words exactly when it refuses
pub words_exactly : (v : Verdict) → KnownIn v → Exactly ((words_of v).length ≡ 0) (v ≡ Ok tt)
words_exactly (Ok tt) known = record { only_when = λ e. refl; whenever = λ e. refl }
words_exactly (Err r) known =
    record { only_when = λ e. absurd (known_words r known (no_words (words r.about) e)); whenever = λ e. absurd (refused_not_passed r e) }

-- so the words of making a table are empty exactly when its answer has no refusal
pub table_words : (s : List ℕ) (cells : ℕ) → Exactly ((words_of (verdict_on (decoded s) cells)).length ≡ 0) ((table_numbers (made (decoded s) cells)).refusal ≡ 0)
unfolding made decoded
table_words s cells =
    exactly_when (words_exactly (verdict_on (decoded s) cells) (refusal_known today s cells)) (λ e. rw e) (table_answered 0 refl s cells)

-- .. and those of a conversion exactly when the header's length is the old one, and its answer has no refusal
pub conversion_words_law : (header : ℕ) (s : List ℕ)
    → Exactly ((conversion_words header s).length ≡ 0) ((header ≡ format48.header) × ((converted_numbers (converted s)).refusal ≡ 0))
unfolding converted told
conversion_words_law header s =
    by_test (eqb header format48.header)
    (λ same.
    let old = words_exactly (verdict_on (decoded_as format48 s) most_rows) (refusal_known format48 s most_rows) in
    rw same (exactly_when old (λ e. (eqb-true header format48.header same, rw e)) (λ both. convert_accepted 0 refl s both.1)))
    (λ other.
    rw other (record {
      only_when = λ e. absurd (told_words _ refl (no_words _ e));
      whenever = λ both. absurd (true_not_false (sym (eq-eqb header format48.header both.0) ∙ other));
    }))

-- the words of a refusal are about the first test that fails, of all tests in their order
pub words_of_its_test : (f : Format) (s : List ℕ) (cells : ℕ) (r : Refusal) (e : verdict_on (decoded_as f s) cells ≡ Err r)
    → words_of (verdict_on (decoded_as f s) cells) ≡ words_about (refused_by_its_test f s (table_tests (survey_in (decoded_as f s)) cells) r e).failed.about
words_of_its_test f s cells r e =
    ap words_of e ∙ ap (λ q. words_about q.about) (refused_by_its_test f s (table_tests (survey_in (decoded_as f s)) cells) r e).is
