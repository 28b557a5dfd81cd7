-- What the answers of the lookups say outright: a volume is on the table, a height is the lowest, and refusals 12 and 13 are given exactly
-- when the height is above DH, or the last row below the volume. Assumes nothing.
use Rattle.std.specs.Prelude.{ℕ, ◌≤◌, ◌<◌, ◌≡◌, true, List, [], ◌∷◌, leb, Result, Ok, Err}
use Rattle.std.proofs.Math.Path.{refl}
use Rattle.std.proofs.Common.{ap, arith, leb-true, leb-false}
use Rattle.std.proofs.lemmas.Bool.{lt-leb}
use Rattle.laws.specs.BoolLaws.{by_test}
use Rattle.laws.specs.Exactly.{Exactly}
use Rattle.laws.specs.ExactlyLaws.{exactly_when}
use Rattle.measure.specs.declared.volume.Volume.{Volume}
use Rattle.measure.specs.Quantity.{dip_height, volume, volume_units}
use Rattle.refusal.specs.declared.About.{About}
use Rattle.refusal.specs.declared.Refusal.{Refusal}
use Rattle.refusal.specs.Test.{Test, refusal, test, verdict, Verdict}
use Rattle.refusal.specs.TestLaws.{second_refused}
use Rattle.lookup.specs.Table.{last_row, sound_table}
use Rattle.lookup.specs.TableLaws.{sound}
use Rattle.lookup.specs.Litres.{litres, OnTable}
use Rattle.lookup.proofs.LitresLaws.{on_table, never_falls_only, litres_at_top}
use Rattle.lookup.specs.Height.{height_for, Lowest}
use Rattle.lookup.proofs.HeightLaws.{lowest_is, reached}
use Rattle.lookup.specs.Answer.{unsound, too_high, too_much, litres_by, litres_answer, ReadOff, TooHigh, height_by, height_answer, Reached, TooMuch, LitresAnswer, HeightAnswer}

-- the number of an answer's refusal, 0 for none
abbrev pub refusal_number : {A : Type 0} → Result A Refusal → ℕ
refusal_number (Ok a) = 0
refusal_number (Err r) = r.number

module _ (dh step : ℕ) (table : List ℕ) where
  pub read_off : (h : ℕ) → ReadOff dh step table h (litres_answer dh step table h)
  unfolding litres_answer
  read_off h =
      by_test (sound_table dh step table)
      (λ e. by_test (leb h dh) (λ f. rw (e, f) (on_table dh step table (sound dh step table e) h (leb-true h dh f))) (λ f. rw (e, f) tt))
      (λ e. rw e tt)

  pub reached_answer : (w : ℕ) → Reached dh step table w (height_answer dh step table w)
  unfolding height_answer
  reached_answer w =
      let last = last_row dh step table in
      by_test (sound_table dh step table)
      (λ e.
      by_test (leb w last)
      (λ f. rw (e, f) (reached (rw (litres_at_top dh step table (sound dh step table e)) (leb-true w last f))))
      (λ f. rw (e, f) tt))
      (λ e. rw e tt)

  -- the tests of a table, and then of a number by its upper limit
  abbrev pub up_to : (number : ℕ) (what : About) (x limit : ℕ) → List Test
  up_to number what x limit = test 11 0 (sound_table dh step table) (unsound dh step) ∷ test number 0 (leb x limit) what ∷ []

  -- what an answer says of the refusal of a number above its limit, and neither of refusal 11 nor where nothing is refused
  pub above_limit : (said : Verdict → Type 0) (number : ℕ) (what : About) (x limit : ℕ)
      → (said (Ok tt) → ⊥) → (said (Err (refusal 11 0 (unsound dh step))) → ⊥) → said (Err (refusal number 0 what))
      → Exactly (said (verdict (up_to number what x limit))) ((sound_table dh step table ≡ true) × (limit < x))
  above_limit said number what x limit p q r =
      exactly_when (second_refused said (refusal 11 0 (unsound dh step)) (refusal number 0 what) p q r (sound_table dh step table) (leb x limit))
      (λ h. (h.0, leb-false x limit h.1))
      (λ h. (h.0, lt-leb x limit h.1))

  -- of answers made of a verdict, told apart by the number of their refusal, 0 for none
  pub refused_above : {A : Type 0} (by : Verdict → A) (number_of : A → ℕ) → number_of (by (Ok tt)) ≡ 0 → ((r : Refusal) → number_of (by (Err r)) ≡ r.number)
      → (number : ℕ) (what : About) (x limit : ℕ) → 11 < number
      → Exactly (by (verdict (up_to number what x limit)) ≡ by (Err (refusal number 0 what))) ((sound_table dh step table ≡ true) × (limit < x))
  refused_above by number_of none its number what x limit other =
      above_limit (λ v. by v ≡ by (Err (refusal number 0 what))) number what x limit
      (λ e. absurd (omega (arith, ap number_of e, none, its (refusal number 0 what))))
      (λ e. absurd (omega (arith, ap number_of e, its (refusal 11 0 (unsound dh step)), its (refusal number 0 what))))
      refl

  pub refused_too_high : (h : ℕ) → Exactly (litres_answer dh step table h ≡ Err (refusal 12 0 (too_high h dh))) (TooHigh dh step table h)
  unfolding litres_answer
  refused_too_high h = refused_above (λ v. litres_by v (litres dh step table h)) refusal_number refl (λ r. refl) 12 _ h dh (omega arith)

  pub refused_too_much : (w : ℕ)
      → Exactly (height_answer dh step table w ≡ Err (refusal 13 0 (too_much w (last_row dh step table)))) (TooMuch dh step table w)
  unfolding height_answer
  refused_too_much w = refused_above (λ v. height_by v (height_for dh step table w)) refusal_number refl (λ r. refl) 13 _ w _ (omega arith)

  -- so the answer alone tells all that a lookup promises
  pub litres_told : (h : ℕ) {r : LitresAnswer} → r ≡ litres_answer dh step table h
      → (r ≡ litres_answer dh step table h) × (ReadOff dh step table h r × Exactly (r ≡ Err (refusal 12 0 (too_high h dh))) (TooHigh dh step table h))
  litres_told h e = (e, rw e (read_off h, refused_too_high h))

  pub height_told : (w : ℕ) {r : HeightAnswer} → r ≡ height_answer dh step table w
      → (r ≡ height_answer dh step table w)
      × (Reached dh step table w r × Exactly (r ≡ Err (refusal 13 0 (too_much w (last_row dh step table)))) (TooMuch dh step table w))
  height_told w e = (e, rw e (reached_answer w, refused_too_much w))

  -- .. of a volume or a height in hand
  pub on_table_told : (h : ℕ) (v : Volume) → Ok v ≡ litres_answer dh step table h → OnTable dh step table h (volume_units v)
  on_table_told h v e = (litres_told h e).1.0

  pub lowest_told : (w h : ℕ) → Ok (dip_height h) ≡ height_answer dh step table w → Lowest dh step table w h
  lowest_told w h e = (height_told w e).1.0

  -- and what is promised leaves no other answer
  pub read_off_only : (h v : ℕ) → sound_table dh step table ≡ true → h ≤ dh → ReadOff dh step table h (Ok (volume v)) → v ≡ litres dh step table h
  read_off_only h v e l told = never_falls_only dh step table (sound dh step table e) h v l told

  pub reached_only : (w h : ℕ) → Reached dh step table w (Ok (dip_height h)) → height_for dh step table w ≡ h
  reached_only w h told = lowest_is told
