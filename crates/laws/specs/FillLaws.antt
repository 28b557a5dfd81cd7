-- Laws of lists by their rows, and of filling a list from the front: `Filled` says that a list holds the first i rows and is, from
-- there on, as it was. Assumes nothing.
use Rattle.std.specs.Prelude.{ℕ, zero, suc, ◌+◌, ◌≤◌, ◌<◌, ◌≡◌, refl, List, [], ◌∷◌, ◌++◌, length, get_or, take, drop, set}
use Rattle.std.proofs.Common.{sym, ◌∙◌, ap, ap₂, add-one, arith, length-append, length-set, take-append-drop, take-suc-set, drop-set-lt, drop-drop}
use Rattle.std.proofs.Math.ListN.{get_or-append}
use Rattle.std.proofs.lemmas.List.{get_or_at}
use Rattle.laws.specs.OrderLaws.{by_order}
use Rattle.laws.specs.Fill.{rows_of}

pub length_rows_of : {A : Type 0} (f : ℕ → A) (n : ℕ) → length (rows_of f n) ≡ n
unfolding rows_of
length_rows_of f zero = refl
length_rows_of f (suc n) = length-append (rows_of f n) (f n ∷ []) ∙ ap (λ (k : ℕ). k + 1) (length_rows_of f n) ∙ add-one n

pub get_or_rows_of : {A : Type 0} (f : ℕ → A) (d : A) (n i : ℕ) → i < n → get_or (rows_of f n) i d ≡ f i
unfolding rows_of
get_or_rows_of f d zero i h = absurd (omega arith)
get_or_rows_of f d (suc n) i h =
    let size = length_rows_of f n in
    by_order n i
    (λ l. get_or_at (rows_of f n) (f n) [] d i (size ∙ same l) ∙ ap f (same l))
    (λ l. get_or-append (rows_of f n) (f n ∷ []) d i (omega arith) ∙ get_or_rows_of f d n i l)
  where
    same : n ≤ i → n ≡ i
    same l = omega arith

-- rows that agree make the same list
pub rows_of_agree : {A : Type 0} (f g : ℕ → A) (n : ℕ) → ((i : ℕ) → i < n → f i ≡ g i) → rows_of f n ≡ rows_of g n
unfolding rows_of
rows_of_agree f g zero h = refl
rows_of_agree f g (suc n) h = ap₂ (λ l x. l ++ (x ∷ [])) (rows_of_agree f g n (λ i l. h i (omega arith))) (h n (omega arith))

-- after i steps of a fill that began with the list `start`
pub record Filled {A : Type 0} (start : List A) (f : ℕ → A) (i : ℕ) (out : List A) : Type 0 where
  pub front : take i out ≡ rows_of f i
  pub rest : drop i out ≡ drop i start
  pub size : length out ≡ length start

pub filled_none : {A : Type 0} (start : List A) (f : ℕ → A) → Filled start f 0 start
unfolding rows_of
filled_none start f = record { front = refl; rest = refl; size = refl }

pub filled_more : {A : Type 0} {start out : List A} {f : ℕ → A} {i : ℕ} → i < length start → Filled start f i out → Filled start f (i + 1) (set out i (f i))
unfolding rows_of
filled_more {A} {start} {out} {f} {i} h was = record {
  front = rw add-one (take-suc-set out i (f i) (omega arith) ∙ ap (λ (l : List A). l ++ (f i ∷ [])) was.front);
  rest =
      drop-set-lt (i + 1) out i (f i) (omega arith)
      ∙ sym (drop-drop 1 i out)
      ∙ ap (drop 1) was.rest
      ∙ drop-drop 1 i start;
  size = length-set out i (f i) ∙ was.size;
}

pub filled_all : {A : Type 0} {start out : List A} {f : ℕ → A} {n : ℕ} → Filled start f n out → out ≡ rows_of f n ++ drop n start
filled_all {A} {start} {out} {f} {n} was = sym (take-append-drop n out) ∙ ap₂ ◌++◌ was.front was.rest
