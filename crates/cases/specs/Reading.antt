-- A reading: what a rule gives, and what the paper says. A table of them holds where each line does. Assumes nothing.
use Rattle.std.specs.Prelude.{ℕ, ◌*◌, ◌≡◌, List, [], ◌∷◌, ℤ, pos}
use Rattle.slabs.specs.Fraction.{Fraction}

-- both with a sign
pub record Reading : Type 0 where
  pub given : ℤ
  pub said : ℤ

infix 30 ◌reads◌
abbrev pub ◌reads◌ : ℕ → ℕ → Reading
given reads said = record { given = pos given; said = pos said }

infix 30 ◌reads_signed◌
abbrev pub ◌reads_signed◌ : ℤ → ℤ → Reading
given reads_signed said = record { given = given; said = said }

-- a fraction, and what it comes to as so many parts of a number
infix 70 ◌per◌
abbrev pub ◌per◌ : ℕ → ℕ → Fraction
over per under = record { over = over; under = under }

infix 30 ◌comes_to◌
abbrev pub ◌comes_to◌ : Fraction → Fraction → Reading
given comes_to said = given.over * said.under reads said.over * given.under

abbrev pub Holds : List Reading → Type 0
Holds [] = Unit {0}
Holds (r ∷ rs) = (r.given ≡ r.said) × Holds rs
