-- `deadwood::item::Deadwood::share` meets its contract: the size of the volume, its share, and the sign. Assumes nothing.
use Rattle.std.proofs.Common.{arith, ◌≡◌, ◌∙◌, ◌≤◌, ap₂, ℤ, nat_abs, w64, to_z, of_z}
use Rattle.std.proofs.lemmas.Int.{to_z-of_z}
use Rattle.laws.specs.Signed.{with_sign}
use Rattle.laws.proofs.SignedLaws.{mag_at_most}
use Rattle.deadwood.specs.Item.{largest_volume}
use Rattle.deadwood.specs.Share.{share}
use Rattle.deadwood.specs.ShareLaws.{share_size_at_most}
use Rattle.deadwood.proofs.item.Deadwood.share.Goals as goal

-- a volume goes through its bits unchanged
plain : (z : ℤ) → nat_abs z ≤ largest_volume → to_z w64 (of_z w64 z) ≡ z
plain z small = to_z-of_z w64 z (record { sfits = omega (arith, mag_at_most z) })

pub overflow_cast-size : goal.overflow_cast-size
overflow_cast-size c =
    omega (
      arith,
      c.share_size-size.ensures,
      rw (plain c.args.self.volume c.requires.1) at c.unsigned_abs.ensures.value,
      share_size_at_most c.units.result c.units-2.result c.unsigned_abs.result c.units-3.result,
    )

pub returns : goal.returns
unfolding share
returns c =
    let volume = plain c.args.self.volume c.requires.1 in
    let sized : c.unsigned_abs.result ≡ nat_abs c.args.self.volume = rw volume at c.unsigned_abs.ensures.value in
    to_z-of_z w64 c.with_sign.result (record { sfits = c.with_sign.type_inv })
    ∙ c.with_sign.ensures
    ∙ ap₂ with_sign volume (rw (← c.units.ensures, ← c.units-2.ensures, ← sized, ← c.units-3.ensures) c.share_size-size.ensures)
