-- Laws of a figure by the places of its text, as the code goes over them: the whole part goes on at a place, or it has ended there.
-- Assumes nothing.
use Rattle.std.specs.Prelude.{ℕ, zero, suc, ◌+◌, ◌*◌, ◌≤◌, ◌<◌, ◌≡◌, refl, Bool, true, false, ◌&&◌, List, leb, ltb, length, get_or, drop}
use Prim.Native.Char.{code}
use Rattle.std.proofs.Common.{add-one, arith, leb-true, ltb-true, drop_of_length-le, drop-cons}
use Rattle.std.proofs.Math.ListN.{get_or-eq_default}
use Rattle.laws.specs.OrderLaws.{by_order}
use Rattle.laws.specs.BoolLaws.{both_pass}
use Rattle.figures.specs.Figures.{is_digit, value_of, most_digits, decimals, ended, figure_from}

-- whether the whole part goes on at a place of a text; past its end there is no digit
abbrev pub whole_place : List ℕ → ℕ → Bool
whole_place s at = is_digit (get_or s at 0) && ltb at most_digits

pub digit_within : (b : ℕ) → is_digit b ≡ true → (code "0" ≤ b) × (b ≤ code "9")
digit_within b h =
    let both = both_pass (leb (code "0") b) (leb b (code "9")) h in
    (leb-true (code "0") b both.0, leb-true b (code "9") both.1)

-- a place where the whole part goes on
pub record Place (s : List ℕ) (at : ℕ) : Type 0 where
  pub inside : at < length s
  pub early : at < most_digits
  pub low : code "0" ≤ get_or s at 0
  pub high : get_or s at 0 ≤ code "9"

pub place : (s : List ℕ) (at : ℕ) → whole_place s at ≡ true → Place s at
place s at h =
    let both = both_pass (is_digit (get_or s at 0)) (ltb at most_digits) h in
    let digit = digit_within (get_or s at 0) both.0 in
    record {
      inside = by_order (length s) at (λ l. absurd (omega (arith, get_or-eq_default s 0 l))) (λ l. l);
      early = ltb-true at most_digits both.1;
      low = digit.0;
      high = digit.1;
    }

-- there its digit is read ..
pub figure_on : (s : List ℕ) (at whole : ℕ)
    → whole_place s at ≡ true
    → figure_from at whole (drop at s) ≡ figure_from (at + 1) (10 * whole + value_of (get_or s at 0)) (drop (at + 1) s)
unfolding figure_from
figure_on s at whole h = rw (add-one, drop-cons s at 0 (place s at h).inside, h)

-- .. and where it does not go on, it has ended
pub figure_ended : (s : List ℕ) (at whole : ℕ) → whole_place s at ≡ false → figure_from at whole (drop at s) ≡ ended at whole (drop at s)
unfolding figure_from
figure_ended s at whole h =
    by_order (length s) at
    (λ l. rw (drop_of_length-le s l))
    (λ l. rw (drop-cons s at 0 l, h))

-- with a digit it is the decimals' turn
pub ended_some : (count whole : ℕ) (s : List ℕ) → 0 < count → ended count whole s ≡ decimals whole s
ended_some zero whole s h = absurd (omega arith)
ended_some (suc count) whole s h = refl
