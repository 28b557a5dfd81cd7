-- A refusal is that of a test which fails, where all tests before it pass: it has the number and place of that test, and is about it. Assumes
-- nothing.
use Rattle.std.specs.Prelude.{◌≡◌, refl, Bool, true, false, List, [], ◌∷◌, ◌++◌, Err}
use Rattle.std.proofs.Common.{sym, ◌∙◌, ap}
use Rattle.laws.specs.Order.{pick}
use Rattle.refusal.specs.declared.Refusal.{Refusal}
use Rattle.refusal.specs.Test.{Test, refusal_of, verdict}
use Rattle.refusal.specs.TestLaws.{AllPass, refused_not_passed}

pub record FirstFailed (ts : List Test) (r : Refusal) : Type 0 where
  pub before : List Test
  pub failed : Test
  pub behind : List Test
  pub in_turn : ts ≡ before ++ (failed ∷ behind)
  pub passed : AllPass before
  pub fails : failed.passes ≡ false
  pub is : r ≡ refusal_of failed

pub first_failed : (ts : List Test) (r : Refusal) → verdict ts ≡ Err r → FirstFailed ts r
first_failed [] r e = absurd (refused_not_passed r (sym e))
first_failed (t ∷ ts) r e = by_pass t.passes refl (first_failed ts r) e
  where
    by_pass : (b : Bool) → t.passes ≡ b → (verdict ts ≡ Err r → FirstFailed ts r)
        → pick b (verdict ts) (Err (refusal_of t)) ≡ Err r → FirstFailed (t ∷ ts) r
    by_pass true passes rest e =
        let first = rest e in
        record {
          before = t ∷ first.before;
          failed = first.failed;
          behind = first.behind;
          in_turn = ap (λ us. t ∷ us) first.in_turn;
          passed = (passes, first.passed);
          fails = first.fails;
          is = first.is;
        }
    by_pass false fails rest e = record { before = []; failed = t; behind = ts; in_turn = refl; passed = tt; fails = fails; is = cc }

-- .. and there is no other
pub failed_only : (ts : List Test) (r : Refusal) → FirstFailed ts r → verdict ts ≡ Err r
failed_only ts r first = ap verdict first.in_turn ∙ behind first.before first.passed ∙ ap Err (sym first.is)
  where
    behind : (before : List Test) → AllPass before → verdict (before ++ (first.failed ∷ first.behind)) ≡ Err (refusal_of first.failed)
    behind [] passed = rw first.fails
    behind (t ∷ before) passed = rw passed.0 (behind before passed.1)
