-- Document 01, 'Refusal numbers, tested in this order': a test has the refusal's number, its place, whether it passes, and what it is about;
-- the verdict on a list of tests is the first that fails, with all of it. Assumes nothing.
use Rattle.std.specs.Prelude.{ℕ, zero, suc, ◌+◌, Bool, ◌&&◌, ◌||◌, List, [], ◌∷◌, ◌++◌, leb, pos, Result, Ok, Err}
use Rattle.laws.specs.Order.{pick}
use Rattle.refusal.specs.declared.About.{About}
use Rattle.refusal.specs.declared.Refusal.{Refusal}

-- what a test is about: the sentence that says it, the record or row that it counts, the number that is tested, and its limits
abbrev pub about : (sentence item value low high : ℕ) → About
about sentence item value low high = record { sentence = sentence; item = item; value = pos value; low = pos low; high = pos high }

abbrev pub refusal : ℕ → ℕ → About → Refusal
refusal number place about = record { number = number; place = place; about = about }

pub record Test : Type 0 where
  pub number : ℕ
  pub place : ℕ
  pub passes : Bool
  pub about : About

abbrev pub test : ℕ → ℕ → Bool → About → Test
test number place passes about = record { number = number; place = place; passes = passes; about = about }

-- a number within its limits
abbrev pub within : (low x high : ℕ) → Bool
within low x high = leb low x && leb x high

-- .. as a test, which tells the limits that it tests by
abbrev pub limited : (number place sentence item low x high : ℕ) → Test
limited number place sentence item low x high = test number place (within low x high) (about sentence item x low high)

-- the refusal of a test that fails
abbrev pub refusal_of : Test → Refusal
refusal_of t = refusal t.number t.place t.about

-- what tests come to: nothing, or the refusal of the first that fails
abbrev pub Verdict : Type 0
Verdict = Result (Unit {0}) Refusal

-- whether an answer is a refusal, and which
abbrev pub verdict_in : {A : Type 0} → Result A Refusal → Verdict
verdict_in (Ok x) = Ok tt
verdict_in (Err r) = Err r

-- the first test that fails, if any does
abbrev pub verdict : List Test → Verdict
verdict [] = Ok tt
verdict (t ∷ ts) = pick t.passes (verdict ts) (Err (refusal_of t))

-- the tests of items 0 to n - 1, in their order
unfoldable pub items : ℕ → (ℕ → List Test) → List Test
items zero f = []
items (suc n) f = items n f ++ f n

-- the numbers that refusals have: 1 to 14 but for 10, which is retired and goes to no other fault (document 02, E6)
abbrev pub in_use : ℕ → Bool
in_use n = within 1 n 9 || within 11 n 14

-- two numbers that differ by no more than so much, either way
abbrev pub near : (x y most : ℕ) → Bool
near x y most = leb y (x + most) && leb x (y + most)

-- the verdict on two lists in a row: the first's where that refuses
abbrev pub first_refusal : Verdict → Verdict → Verdict
first_refusal (Ok tt) v = v
first_refusal (Err r) v = Err r
