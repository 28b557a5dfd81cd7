-- Laws of the litres delivered: none between equal heights; the heights exchanged, the sign turned; from a first height to a second and on
-- to a third they add up; and a higher second height never gives a negative answer. And what an answer says outright. Assumes nothing.
use Rattle.std.specs.Prelude.{ℕ, ◌-◌, ◌≤◌, max, ◌≡◌, refl, true, List, leb, ℤ, pos, neg_ℤ, ◌+ℤ◌, ◌-ℤ◌, Ok, Err}
use Rattle.std.proofs.Common.{sym, ◌∙◌, ap, arith}
use borrow.Author.Tests.{le-leb, lt-leb, le-ltb, lt-ltb, leb-true, leb-false}
use Rattle.std.proofs.Math.IntN.{+ℤ_assoc, +ℤ_comm, +ℤ_invr, neg_ℤ-neg_ℤ, neg_ℤ-+ℤ, +ℤ-neg_ℤ_cancel, -ℤ-+ℤ_cancel}
use Rattle.std.specs.Int.Signed.{non_neg}
use Rattle.laws.specs.BoolLaws.{by_test}
use Rattle.laws.specs.Exactly.{Exactly}
use Rattle.laws.proofs.HalfLaws.{difference_up}
use Rattle.laws.proofs.SignedLaws.{minus}
use Rattle.measure.specs.Quantity.{volume_units}
use Rattle.refusal.specs.declared.Refusal.{Refusal}
use Rattle.refusal.specs.Test.{refusal, verdict, Verdict}
use Rattle.lookup.specs.Table.{sound_table}
use Rattle.lookup.specs.TableLaws.{sound}
use Rattle.lookup.specs.Litres.{litres}
use Rattle.lookup.proofs.LitresLaws.{litres_mono, never_falls_only}
use Rattle.lookup.specs.Answer.{too_high, litres_answer, ReadOff, TooHigh, LitresAnswer}
use Rattle.lookup.proofs.AnswerLaws.{up_to, read_off, refusal_number, refused_above}
use Rattle.lookup.specs.Delivered.{delivered_by, delivered_answer, ReadOffBoth, higher, DeliveredAnswer}

-- ---- the two tests as one: of the higher height, about the first that is above DH

abbrev difference_by : Verdict → ℤ → DeliveredAnswer
difference_by (Ok tt) d = Ok d
difference_by (Err r) d = Err r

same_litres : {y z : ℤ} → ◌≡◌ {A = DeliveredAnswer} (Ok y) (Ok z) → y ≡ z
same_litres e = cc

not_litres : {r : Refusal} {d : ℤ} → ◌≡◌ {A = DeliveredAnswer} (Err r) (Ok d) → ⊥
not_litres e = cc

-- ---- differences

turned : (y z : ℤ) → y -ℤ z ≡ neg_ℤ (z -ℤ y)
turned y z = +ℤ_comm y (neg_ℤ z) ∙ ap (λ x. neg_ℤ z +ℤ x) (sym (neg_ℤ-neg_ℤ y)) ∙ sym (neg_ℤ-+ℤ z (neg_ℤ y))

joined : (x y z : ℤ) → z -ℤ x ≡ (y -ℤ x) +ℤ (z -ℤ y)
joined x y z = ap (λ w. w -ℤ x) (sym (-ℤ-+ℤ_cancel z y)) ∙ +ℤ_assoc (z -ℤ y) y (neg_ℤ x) ∙ +ℤ_comm (z -ℤ y) (y -ℤ x)

put_back : (y z : ℤ) → y +ℤ (z -ℤ y) ≡ z
put_back y z = +ℤ_comm y (z -ℤ y) ∙ -ℤ-+ℤ_cancel z y

taken_off : (y d z : ℤ) → y +ℤ d ≡ z → d ≡ z -ℤ y
taken_off y d z e = sym (+ℤ-neg_ℤ_cancel d y) ∙ ap (λ w. w -ℤ y) (+ℤ_comm d y ∙ e)

not_below_zero : (m n : ℕ) → m ≤ n → non_neg (pos n -ℤ pos m) ≡ true
not_below_zero m n l = rw (minus n m, difference_up n m (n - m) (omega arith))

module _ (dh step : ℕ) (table : List ℕ) where
  abbrev held : ℕ → ℤ
  held h = pos (litres dh step table h)

  abbrev gain : ℕ → ℕ → ℤ
  gain before after = held after -ℤ held before

  by_higher : (before after : ℕ)
      → delivered_answer dh step table before after
      ≡ difference_by (verdict (up_to dh step table 12 (too_high (higher dh before after) dh) (max before after) dh)) (gain before after)
  unfolding delivered_answer litres_answer
  by_higher before after =
      by_test (sound_table dh step table)
      (λ s.
      by_test (leb before dh)
      (λ f.
      let first = leb-true before dh f in
      by_test (leb after dh)
      (λ g. let second = leb-true after dh g in rw (s, f, g, le-leb (max before after) dh (omega arith)))
      (λ g. let second = leb-false after dh g in rw (s, f, g, lt-leb (max before after) dh (omega arith), le-ltb dh before first)))
      (λ f. let first = leb-false before dh f in rw (s, f, lt-leb (max before after) dh (omega arith), lt-ltb dh before first)))
      (λ s. rw s)

  -- between heights up to DH the difference is answered
  pub delivered_inside : (before after : ℕ) → sound_table dh step table ≡ true → before ≤ dh → after ≤ dh
      → delivered_answer dh step table before after ≡ Ok (pos (litres dh step table after) -ℤ pos (litres dh step table before))
  delivered_inside before after s l m = by_higher before after ∙ rw (s, le-leb (max before after) dh (omega arith))

  -- .. and only there
  record Answered (before after : ℕ) (d : ℤ) : Type 0 where
    is_sound : sound_table dh step table ≡ true
    first : before ≤ dh
    second : after ≤ dh
    is : d ≡ gain before after

  answered : (before after : ℕ) {d : ℤ} → delivered_answer dh step table before after ≡ Ok d → Answered before after d
  answered before after e =
      let given = sym (by_higher before after) ∙ e in
      by_test (sound_table dh step table)
      (λ s.
      by_test (leb (max before after) dh)
      (λ f.
      let both = leb-true (max before after) dh f in
      let same = rw (s, f) at given in
      record { is_sound = s; first = omega arith; second = omega arith; is = cc })
      (λ f. let other = rw (s, f) at given in cc))
      (λ s. let other = rw s at given in cc)

  pub delivered_nothing : (h : ℕ) → sound_table dh step table ≡ true → h ≤ dh → delivered_answer dh step table h h ≡ Ok (pos 0)
  delivered_nothing h s l = delivered_inside h h s l l ∙ ap Ok (+ℤ_invr (held h))

  pub delivered_exchanged : (before after : ℕ) {d : ℤ} → delivered_answer dh step table before after ≡ Ok d
      → delivered_answer dh step table after before ≡ Ok (neg_ℤ d)
  delivered_exchanged before after e =
      let x = answered before after e in
      rw x.is (delivered_inside after before x.is_sound x.second x.first ∙ ap Ok (turned (held before) (held after)))

  pub delivered_in_turn : (first second third : ℕ) {d e : ℤ} → delivered_answer dh step table first second ≡ Ok d
      → delivered_answer dh step table second third ≡ Ok e
      → delivered_answer dh step table first third ≡ Ok (d +ℤ e)
  delivered_in_turn first second third p q =
      let x = answered first second p in
      let y = answered second third q in
      rw (x.is, y.is)
      (delivered_inside first third x.is_sound x.first y.second ∙ ap Ok (joined (held first) (held second) (held third)))

  pub delivered_higher : (before after : ℕ) {d : ℤ} → before ≤ after → delivered_answer dh step table before after ≡ Ok d
      → non_neg d ≡ true
  delivered_higher before after l e =
      let x = answered before after e in
      rw x.is (not_below_zero _ _ (litres_mono dh step table (sound dh step table x.is_sound) before after l x.second))

  -- ---- what an answer says outright: volumes on the table whose difference it is, and refusal 12 exactly when a height is above DH

  both_read : (before after : ℕ) (x y : LitresAnswer) → ReadOff dh step table before x → ReadOff dh step table after y
      → ReadOffBoth dh step table before after (delivered_by x y)
  both_read before after (Err r) y p q = tt
  both_read before after (Ok a) (Err r) p q = tt
  both_read before after (Ok a) (Ok b) p q =
      record { a = volume_units a; b = volume_units b; at_first = p; at_second = q; adds_up = put_back (pos (volume_units a)) (pos (volume_units b)) }

  pub read_off_both : (before after : ℕ) → ReadOffBoth dh step table before after (delivered_answer dh step table before after)
  unfolding delivered_answer
  read_off_both before after =
      both_read before after (litres_answer dh step table before) (litres_answer dh step table after)
      (read_off dh step table before) (read_off dh step table after)

  refused_either : (before after : ℕ)
      → Exactly (delivered_answer dh step table before after ≡ Err (refusal 12 0 (too_high (higher dh before after) dh)))
      (TooHigh dh step table (max before after))
  refused_either before after =
      rw (by_higher before after)
      (refused_above dh step table (λ v. difference_by v (gain before after)) refusal_number refl (λ r. refl) 12 _ (max before after) dh (omega arith))

  -- so the answer alone tells all that a lookup promises
  pub delivered_told : (before after : ℕ) {r : DeliveredAnswer} → r ≡ delivered_answer dh step table before after
      → (r ≡ delivered_answer dh step table before after)
      × (ReadOffBoth dh step table before after r
      × Exactly (r ≡ Err (refusal 12 0 (too_high (higher dh before after) dh))) (TooHigh dh step table (max before after)))
  delivered_told before after e = (e, rw e (read_off_both before after, refused_either before after))

  pub exactly_told : (before after : ℕ) (r : DeliveredAnswer) → r ≡ delivered_answer dh step table before after
      → Exactly (r ≡ Err (refusal 12 0 (too_high (higher dh before after) dh))) (TooHigh dh step table (max before after))
  exactly_told before after r e = (delivered_told before after e).1.1

  -- and what is promised leaves no other answer
  pub read_off_both_only : (before after : ℕ) (d : ℤ) → sound_table dh step table ≡ true → before ≤ dh → after ≤ dh
      → ReadOffBoth dh step table before after (Ok d) → delivered_answer dh step table before after ≡ Ok d
  read_off_both_only before after d s l m told =
      let first = never_falls_only dh step table (sound dh step table s) before told.a l told.at_first in
      let second = never_falls_only dh step table (sound dh step table s) after told.b m told.at_second in
      rw (taken_off (pos told.a) d (pos told.b) told.adds_up, first, second) (delivered_inside before after s l m)
