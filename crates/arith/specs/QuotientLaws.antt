-- What it is to be a quotient and a rest, and how a quotient is bounded. Assumes nothing.
use Rattle.std.specs.Prelude.{◌≡◌, ℕ, ◌+◌, ◌*◌, ◌≤◌, ◌<◌}
use Rattle.std.proofs.Common.{mul-le-mul_left, mul-le-mul_right, le_of_lt, arith}
use Rattle.laws.specs.OrderLaws.{by_order}

pub record Divided (dividend divisor quotient rest : ℕ) : Type 0 where
  pub whole : quotient * divisor + rest ≡ dividend
  pub proper : rest < divisor

-- with one factor below the divisor the quotient does not pass the other
pub quotient_at_most : {factor other divisor quotient rest : ℕ} → other < divisor → Divided (factor * other) divisor quotient rest → quotient ≤ factor
quotient_at_most {factor} {other} {divisor} {quotient} {rest} h d =
    by_order quotient factor (λ l. l)
    (λ l. absurd (omega (arith, mul-le-mul_right divisor l, mul-le-mul_left factor (le_of_lt h), d.whole)))
