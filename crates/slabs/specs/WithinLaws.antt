-- A fitting and a covering total against a volume of x cubic u, with a slack: what is shown of each part alone, that it adds up
-- over the parts, and that a larger slack does as well. Assumes nothing.
use Rattle.std.specs.Prelude.{ℕ, ◌+◌, ◌≤◌}
use Rattle.std.proofs.Common.{mul-le-mul_left, arith}
use Rattle.slabs.specs.Fraction.{Fraction, whole, ◌⊕◌, ◌⊑◌}

pub record Within (fitting covering : Fraction) (x slack : ℕ) : Type 0 where
  pub fits : fitting ⊑ whole (x + slack)
  pub covers : whole x ⊑ covering ⊕ whole slack

pub within_add : {f f' c c' : Fraction} {x x' s s' : ℕ} → Within f c x s → Within f' c' x' s'
    → Within (f ⊕ f') (c ⊕ c') (x + x') (s + s')
within_add {f} {f'} {c} {c'} w w' = record {
  fits = omega (arith, mul-le-mul_left f'.under w.fits, mul-le-mul_left f.under w'.fits);
  covers = omega (arith, mul-le-mul_left c'.under w.covers, mul-le-mul_left c.under w'.covers);
}

pub within_more : {f c : Fraction} {x s s' : ℕ} → s ≤ s' → Within f c x s → Within f c x s'
within_more {f} {c} l w = record {
  fits = omega (arith, w.fits, mul-le-mul_left f.under l);
  covers = omega (arith, w.covers, mul-le-mul_left c.under l);
}
