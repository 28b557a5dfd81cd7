-- The limits that refusals 6 and 14 tell are those of the rules: the sum of the lengths is near L1, and a spherical cap is at most half as long as its
-- diameter. Assumes nothing.
use Rattle.std.specs.Prelude.{ℕ, ◌*◌, ◌/◌, ◌≡◌, leb}
use Rattle.std.proofs.Common.{sym, arith}
use Rattle.laws.specs.OrderLaws.{same_order}
use Rattle.refusal.specs.Test.{near}
use Rattle.refusal.specs.TestLaws.{near_within}
use Rattle.heads.specs.declared.kind.HeadKind.TheVariants.{SphericalCap}
use Rattle.dimensions.specs.declared.sums.Sums.{Sums}
use Rattle.dimensions.specs.Dimensions.{allowance}
use Rattle.dimensions.specs.Tests.{lengths_test, head_length_test}

pub lengths_near : (t : Sums) (l1 : ℕ) → (lengths_test t l1).passes ≡ near t.lengths l1 (allowance t)
lengths_near t l1 = sym (near_within t.lengths l1 (allowance t))

pub caps_at_most_half : (d l : ℕ) → (head_length_test SphericalCap d l).passes ≡ leb l (d / 2)
caps_at_most_half d l = same_order (2 * l) d l (d / 2) (λ k. omega arith) (λ k. omega arith)
