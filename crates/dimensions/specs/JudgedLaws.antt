-- What the judgement of a file tells of the verdict behind it, and what a diameter that was measured tells of its test. Assumes nothing.
use Rattle.refusal.specs.Test.{Verdict}
use Rattle.std.specs.Prelude.{ℕ, Bool, true, false, List, ◌≡◌, refl, Option, Some, None, Ok, Err}
use Rattle.std.proofs.Common.{sym, ◌∙◌, ap}
use Rattle.laws.specs.Order.{pick}
use Rattle.measure.specs.declared.diameter.Diameter.{Diameter}
use Rattle.measure.specs.Quantity.{diameter}
use Rattle.refusal.specs.declared.Refusal.{Refusal}
use Rattle.file.specs.declared.format.Format.{Format}
use Rattle.file.specs.Word.{word}
use Rattle.file.specs.Layout.{dh_at}
use Rattle.dimensions.specs.declared.dimensions.Diameters.{Diameters}
use Rattle.dimensions.specs.Dimensions.{d1, d2}
use Rattle.dimensions.specs.Judged.{judged_by}

module _ (f : Format) (s : List ℕ) where
  pub told_refused : (w : Verdict) {r : Refusal} → judged_by f s w ≡ Err r → w ≡ Err r
  told_refused (Ok tt) {r} e = cc
  told_refused (Err q) {r} e = cc

  pub told_found : (w : Verdict) {found : Diameters} → judged_by f s w ≡ Ok found
      → (w ≡ Ok tt) × (found.dh ≡ diameter (word s dh_at)) × (found.d1 ≡ diameter (d1 f s)) × (found.d2 ≡ diameter (d2 f s))
  told_found (Ok tt) {found} e =
      let is : record { dh = diameter (word s dh_at); d1 = diameter (d1 f s); d2 = diameter (d2 f s) } ≡ found = cc in
      (refl, ap (λ x. x.dh) (sym is), ap (λ x. x.d1) (sym is), ap (λ x. x.d2) (sym is))
  told_found (Err q) {found} e = (cc, cc, cc, cc)

-- what measuring a diameter told of the test behind it

pub told_outside : (fits : Bool) (d : Diameter) {m : Option Diameter} → m ≡ pick fits (Some d) None → m ≡ None → fits ≡ false
told_outside fits d {m} e out = go fits (sym e ∙ out)
  where
    go : (fits : Bool) → pick fits (Some d) None ≡ None → fits ≡ false
    go true h = cc
    go false h = refl

pub told_within : (fits : Bool) (d : Diameter) {x : Diameter} {m : Option Diameter} → m ≡ pick fits (Some d) None → m ≡ Some x → (fits ≡ true) × (x ≡ d)
told_within fits d {x} {m} e is = go fits (sym e ∙ is)
  where
    go : (fits : Bool) → pick fits (Some d) None ≡ Some x → (fits ≡ true) × (x ≡ d)
    go true h = (refl, cc)
    go false h = (cc, cc)
