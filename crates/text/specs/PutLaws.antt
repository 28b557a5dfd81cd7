-- Laws of text that is put into lent memory: nothing, a byte, one text behind another, and a text that fits. Assumes nothing.
use Rattle.std.specs.Prelude.{ℕ, ◌+◌, ◌-◌, ◌≤◌, ◌<◌, min, ◌≡◌, refl, List, [], ◌∷◌, ◌++◌, length, take, drop, set}
use Rattle.std.proofs.Common.{sym, ◌∙◌, ap, append_assoc, append-nil, add-one, arith, length-append, length-take, length-drop, take-append-drop, drop_of_length-le, take_all, drop-drop, length-take-le}
use Rattle.std.proofs.Math.Seq.{take-nil, drop-nil, take-append-add, drop-append-add, drop-append_seam, take-append_seam}
use Rattle.std.proofs.lemmas.List.{take-append-le, set_split}
use Rattle.laws.specs.OrderLaws.{by_order}
use Rattle.text.specs.Put.{overwritten, put_at, Put, Says}

length_overwritten : (t m : List ℕ) → length (overwritten t m) ≡ length m
length_overwritten t m = rw (length-append, length-take, length-drop) (omega arith)

pub length_put : (at : ℕ) (t l : List ℕ) → length (put_at at t l) ≡ length l
length_put at t l = rw (length-append, length-take, length_overwritten t (drop at l), length-drop) (omega arith)

-- a text that fits is there whole
overwritten_fits : (t m : List ℕ) → length t ≤ length m → overwritten t m ≡ t ++ drop (length t) m
overwritten_fits t m h = ap (λ (l : List ℕ). l ++ drop (length t) m) (take_all (length m) t h)

-- .. and one that does not leaves room for no other
overwritten_full : (t m : List ℕ) → length m ≤ length t → overwritten t m ≡ take (length m) t
overwritten_full t m h = ap (λ (l : List ℕ). take (length m) t ++ l) (drop_of_length-le m h) ∙ append-nil (take (length m) t)

-- one text behind another, from the start of the memory
overwritten_both : (s t m : List ℕ)
    → take (min (length s) (length m)) (overwritten s m) ++ overwritten t (drop (min (length s) (length m)) (overwritten s m)) ≡ overwritten (s ++ t) m
overwritten_both s t m =
    by_order (length m) (length s)
    (λ l.
    let n : min (length s) (length m) ≡ length m = omega arith in
    let size : length (take (length m) s) ≡ length m = length-take-le (length m) s l in
    rw (n, overwritten_full s m l, take_all (length m) (take (length m) s) (omega arith), drop_of_length-le (take (length m) s) {i = length m} (omega arith), drop-nil, append-nil)
    (sym (overwritten_full (s ++ t) m (rw length-append (omega arith)) ∙ take-append-le (length m) s t l)))
    (λ l.
    let n : min (length s) (length m) ≡ length s = omega arith in
    let rest : length (drop (length s) m) ≡ length m - length s = length-drop (length s) m in
    let all : length m ≡ length s + (length m - length s) = omega arith in
    let front : take (length m) (s ++ t) ≡ s ++ take (length m - length s) t = ap (λ (k : ℕ). take k (s ++ t)) all ∙ take-append-add s t (length m - length s) in
    rw (n, overwritten_fits s m (omega arith), take-append_seam s (drop (length s) m), drop-append_seam s (drop (length s) m), rest, drop-drop, length-append, front, append_assoc))

-- .. and from any place of it
pub put_both : {at mid next : ℕ} {s t before between after : List ℕ} → Put at s before between mid → Put mid t between after next → Put at (s ++ t) before after next
put_both {at} {mid} {next} {s} {t} {before} {between} {after} first second =
    by_order (length before) at
    (λ l.
    let none : drop at before ≡ [] = drop_of_length-le before l in
    let all : take at before ≡ before = take_all at before l in
    let kept : (u : List ℕ) → put_at at u before ≡ before = λ u. rw (none, all, drop-nil, append-nil) refl in
    let mid-is : mid ≡ at = omega (arith, first.next_is) in
    record {
      memory = second.memory ∙ rw (mid-is, first.memory, kept s, kept t, kept (s ++ t)) refl;
      next_is = second.next_is ∙ rw (mid-is, first.memory, kept s) (omega (arith, length-append s t));
    })
    (λ l.
    let size : length (take at before) ≡ at = length-take-le at before (omega arith) in
    let rest : length (drop at before) ≡ length before - at = length-drop at before in
    let n = min (length s) (length (drop at before)) in
    let moved = overwritten s (drop at before) in
    let mid-is : mid ≡ length (take at before) + n = omega (arith, first.next_is) in
    let front : take mid between ≡ take at before ++ take n moved = rw (mid-is, first.memory) (take-append-add (take at before) moved n) in
    let back : drop mid between ≡ drop n moved = rw (mid-is, first.memory) (drop-append-add (take at before) moved n) in
    let longest : length between ≡ length before = ap length first.memory ∙ length_put at s before in
    record {
      memory =
          second.memory
          ∙ rw (front, back, append_assoc)
          (ap (λ (u : List ℕ). take at before ++ u) (overwritten_both s t (drop at before)));
      next_is = second.next_is ∙ rw longest (omega (arith, first.next_is, length-append s t));
    })

pub put_nothing : (at : ℕ) (l : List ℕ) → Put at [] l l at
put_nothing at l = record {
  memory = rw take-nil (sym (take-append-drop at l));
  next_is = omega arith;
}

-- a byte, where there is room for it and where there is none
pub put_byte : (at b : ℕ) (l : List ℕ) → at < length l → Put at (b ∷ []) l (set l at b) (at + 1)
put_byte at b l h =
    let rest : length (drop at l) ≡ length l - at = length-drop at l in
    record {
      memory = set_split l at b h ∙ rw (overwritten_fits (b ∷ []) (drop at l) (omega arith), drop-drop, add-one) refl;
      next_is = omega arith;
    }

pub put_no_byte : (at b : ℕ) (l : List ℕ) → length l ≤ at → Put at (b ∷ []) l l at
put_no_byte at b l h = record {
  memory = rw (drop_of_length-le l h, take_all at l h) (sym (append-nil l));
  next_is = omega arith;
}

pub put_length : {at next : ℕ} {t before after : List ℕ} → Put at t before after next → length after ≡ length before
put_length {at} {next} {t} {before} {after} put = ap length put.memory ∙ length_put at t before

-- a text that fits at the start of a memory stands there whole, and behind it what stood there
pub put_fits : {next : ℕ} {t before after : List ℕ} → Put 0 t before after next → length t ≤ length before
    → (after ≡ t ++ drop (length t) before) × (next ≡ length t)
put_fits {next} {t} {before} {after} put fits = (put.memory ∙ overwritten_fits t before fits, omega (arith, put.next_is))

-- a text that is no longer than so much
pub says : {room next : ℕ} {t before after : List ℕ} → length t ≤ room → Put 0 t before after next → Says room t before after next
says {room} {next} {t} {before} {after} short put =
    let inside : next ≤ length after = omega (arith, put.next_is, put_length put) in
    (put, inside, sym (length-take-le next after inside), λ fits. whole (omega arith))
  where
    whole : length t ≤ length before → take next after ≡ t
    whole fits =
        let all : next ≡ length t = omega (arith, put.next_is) in
        rw (all, put.memory, overwritten_fits t before fits) (take-append_seam t (drop (length t) before))
