-- The sign of a number above 0, and of any other. Assumes nothing.
use Rattle.std.specs.Prelude.{zero, suc, ◌≡◌, refl, true, false, ℤ, pos, negsuc}
use Rattle.std.proofs.Common.{sym, arith, ltb-true, ltb-false}
use Rattle.std.specs.Int.Signed.{lt_z}
use Rattle.laws.specs.BoolLaws.{true_not_false}
use Rattle.text.specs.Ascii.{ascii}
use Rattle.text.specs.Digits.{minus_of}
use Rattle.lines.specs.Lines.{sign_of}

pub sign_above : (z : ℤ) → lt_z (pos 0) z ≡ true → sign_of z ≡ ascii "+"
sign_above (pos zero) h = absurd (omega (arith, ltb-true 0 0 h))
sign_above (pos (suc n)) h = refl
sign_above (negsuc n) h = absurd (true_not_false (sym h))

pub sign_not_above : (z : ℤ) → lt_z (pos 0) z ≡ false → sign_of z ≡ minus_of z
sign_not_above (pos zero) h = refl
sign_not_above (pos (suc n)) h = absurd (omega (arith, ltb-false 0 (suc n) h))
sign_not_above (negsuc n) h = refl
