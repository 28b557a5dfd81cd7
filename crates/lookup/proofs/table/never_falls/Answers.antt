-- `lookup::table::never_falls` meets its contract: the library's answer, on each pair of neighbour rows. Assumes nothing.
use Rattle.std.proofs.Common.{◌≡◌, refl, sym, Bool, true, false, List, ℕ, zero, suc, ◌+◌, ◌<◌, add-one, arith, le-leb, length, get_or}
use Rattle.std.specs.Bool.{MatchBool}
use Rattle.std.specs.List.Sorted.{IsNonDecreasing}
use Rattle.std.proofs.lemmas.Bool.{lt-leb}
use Rattle.std.proofs.lemmas.List.Sorted.{non_decreasing_from_is_sorted}
use Rattle.laws.specs.SearchLaws.{every_each, every_not}
use Rattle.lookup.specs.Table.{row, keeps_up, never_falls}
use Rattle.lookup.proofs.table.never_falls.Goals as goal

pairs : (t : List ℕ) (r : Bool)
    → MatchBool r (IsNonDecreasing t) ((k : ℕ) × (k + 1 < length t) × ((d : ℕ) → get_or t (k + 1) d < get_or t k d))
    → r ≡ never_falls t
unfolding never_falls
pairs t true rises = sym (every_each (length t) (keeps_up t) each)
  where
    each : (i : ℕ) → i < length t → keeps_up t i ≡ true
    each zero l = refl
    each (suc i) l = le-leb _ _ (rises i (suc i) 0 (omega arith) l)
pairs t false (k, l, falls) =
    sym (every_not (length t) (keeps_up t) (suc k) (omega arith) (lt-leb (row t k) (row t (suc k)) (rw add-one at (falls 0))))

pub returns : goal.returns
returns c = pairs _ _ (non_decreasing_from_is_sorted _ _ c.is_sorted.ensures.cases)
