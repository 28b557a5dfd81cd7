-- A share by where the height stands, that it is no larger than its item, and that nothing is taken at the bottom. Assumes nothing.
use Rattle.std.specs.Prelude.{◌≡◌, refl, ℕ, ◌*◌, ◌-◌, ◌≤◌, ◌<◌, ℤ, pos, negsuc, nat_abs}
use Rattle.std.proofs.Common.{◌∙◌, ap, le_refl, mul-le-mul_left, arith}
use borrow.Author.Tests.{le-leb, lt-leb}
use Rattle.std.specs.Int.Signed.{mag}
use Rattle.laws.specs.OrderLaws.{by_order}
use Rattle.laws.specs.Signed.{with_sign}
use Rattle.laws.proofs.SignedLaws.{sign_size}
use Rattle.laws.specs.Nearest.{nearest}
use Rattle.laws.proofs.NearestLaws.{nearest_at_most}
use Rattle.measure.specs.Quantity.{dip_units}
use Rattle.deadwood.specs.declared.item.Deadwood.{Deadwood}
use Rattle.deadwood.specs.Share.{share_size, share}

module _ (low high size h : ℕ) where
  pub share_nothing : h ≤ low → share_size low high size h ≡ 0
  unfolding share_size
  share_nothing below = rw (le-leb h low below)

  pub share_all : low < h → high ≤ h → share_size low high size h ≡ size
  unfolding share_size
  share_all above over = rw (lt-leb h low above, le-leb high h over)

  pub share_part : low < h → h < high → share_size low high size h ≡ nearest (size * (h - low)) (high - low)
  unfolding share_size
  share_part above under = rw (lt-leb h low above, lt-leb high h under)

  -- no share is larger than its item
  pub share_size_at_most : share_size low high size h ≤ size
  share_size_at_most =
      by_order h low
      (λ below. rw (share_nothing below) (omega arith))
      (λ above.
      by_order high h
      (λ over. rw (share_all above over) (le_refl size))
      (λ under.
      rw (share_part above under)
      (nearest_at_most (size * (h - low)) size (high - low) (omega arith) (mul-le-mul_left {m = h - low} {n = high - low} size (omega arith)))))

pub share_at_most : (d : Deadwood) (h : ℕ) → mag (share d h) ≤ nat_abs d.volume
unfolding share
share_at_most d h =
    let low = dip_units d.low in
    let high = dip_units d.high in
    let size = nat_abs d.volume in
    omega (arith, sign_size d.volume (share_size low high size h), share_size_at_most low high size h)

nothing_signed : (z : ℤ) → with_sign z 0 ≡ pos 0
nothing_signed (pos n) = refl
nothing_signed (negsuc n) = refl

pub no_share_at_bottom : (d : Deadwood) → share d 0 ≡ pos 0
unfolding share
no_share_at_bottom d = ap (with_sign d.volume) (share_nothing _ _ _ 0 (omega arith)) ∙ nothing_signed d.volume
