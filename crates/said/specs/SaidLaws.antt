-- Laws of what is said: a text with nothing beside it, what is said where there is more room, what is said by a verdict, and the
-- rows at the front of a memory. Assumes nothing.
use Rattle.refusal.specs.Test.{Verdict}
use Rattle.std.specs.Prelude.{ℕ, zero, suc, ◌≤◌, ◌<◌, ◌≡◌, refl, List, [], length, take, Ok, Err}
use Rattle.std.proofs.Common.{arith, get_or-take, length-take-le}
use Rattle.refusal.specs.declared.Refusal.{Refusal}
use Rattle.text.specs.Put.{Put, Says}
use Rattle.text.specs.PutLaws.{put_nothing, says}
use Rattle.lines.specs.Lines.{line_size}
use Rattle.said.specs.declared.Said.{Said}
use Rattle.said.specs.Said.{Told, refused_text, refused_words, text_by, verdict_words, rows_text, whole_text}

module _ {room : ℕ} {text out₀ out : List ℕ} {count : ℕ} where
  pub told_alone : {err : List ℕ} → Says room text out₀ out count → Told room text [] out₀ out err err (record { out = count; err = 0 })
  told_alone printed = record { printed = printed; beside = says (omega arith) (put_nothing 0 _) }

  pub told_line : {err : List ℕ} → (length text ≤ room) → Put 0 text out₀ out count
      → Told room text [] out₀ out err err (record { out = count; err = 0 })
  told_line short put = told_alone (says short put)

pub told_wider : {room room' : ℕ} {text words out₀ out err₀ err : List ℕ} {said : Said} → room ≤ room'
    → Told room text words out₀ out err₀ err said → Told room' text words out₀ out err₀ err said
told_wider wider told =
    let p = told.printed in
    record { printed = (p.0, p.1, p.2, λ fits. p.3 (omega arith)); beside = told.beside }

module _ {room : ℕ} {verdict : Verdict} {out₀ out err₀ : List ℕ} where
  pub refused_told : {err : List ℕ} {said : Said} (text : List ℕ) (r : Refusal) → verdict ≡ Err r → line_size ≤ room
      → Told line_size (refused_text r) (refused_words r) out₀ out err₀ err said
      → Told room (text_by verdict text) (verdict_words verdict) out₀ out err₀ err said
  unfolding text_by
  refused_told text r is enough told = rw is (told_wider enough told)

  pub passed_told : {count : ℕ} (text : List ℕ) → verdict ≡ Ok tt → Says room text out₀ out count
      → Told room (text_by verdict text) (verdict_words verdict) out₀ out err₀ err₀ (record { out = count; err = 0 })
  unfolding text_by
  passed_told text is printed = rw is (told_alone printed)

-- the rows at the front of a memory are said as those of the memory
module _ (dh step : ℕ) (table : List ℕ) (rows : ℕ) where
  rows_taken : (n : ℕ) → n ≤ rows → rows_text dh step (take rows table) n ≡ rows_text dh step table n
  unfolding rows_text
  rows_taken zero few = refl
  rows_taken (suc n) few =
      let l : n < rows = omega arith in
      rw (rows_taken n (omega arith), get_or-take rows table n 0 l)

  pub whole_taken : rows ≤ length table → whole_text dh step (take rows table) (length (take rows table)) ≡ whole_text dh step table rows
  whole_taken inside = rw (length-take-le rows table inside, rows_taken rows (omega arith))
