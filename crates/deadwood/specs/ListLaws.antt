-- A list of deadwood items within its limits: its shares and their sums are small. At the bottom no list takes anything, and an empty
-- list nowhere. Assumes nothing.
use Rattle.std.specs.Prelude.{◌≡◌, refl, ℕ, zero, suc, ◌+◌, ◌*◌, ◌≤◌, ◌<◌, List, [], ℤ, pos, nat_abs, length}
use Rattle.std.proofs.Common.{mul-le-mul, le_refl, le_trans, arith}
use Rattle.std.specs.Int.Signed.{mag}
use Rattle.laws.specs.Signed.{sumℤ}
use Rattle.laws.proofs.SignedLaws.{sumℤ-zero, sumℤ-size}
use Rattle.measure.specs.Quantity.{dip_units}
use Rattle.deadwood.specs.declared.item.Deadwood.{Deadwood}
use Rattle.deadwood.specs.Item.{most_items, largest_volume, item_at}
use Rattle.deadwood.specs.Share.{share_in, shares_of}
use Rattle.deadwood.specs.ShareLaws.{share_at_most, no_share_at_bottom}

pub record DeadwoodLimits (items : List Deadwood) : Type 0 where
  pub few : length items ≤ most_items
  pub rises : (i : ℕ) → i < length items → dip_units (item_at items i).low < dip_units (item_at items i).high
  pub volume_size : (i : ℕ) → i < length items → nat_abs (item_at items i).volume ≤ largest_volume

-- no sum of shares is larger; `mag` is 1 less below zero, so each share counts for 1 more
abbrev pub largest_sum : ℕ
largest_sum = most_items * (largest_volume + 1)

module _ (items : List Deadwood) (h : ℕ) (limits : DeadwoodLimits items) where
  pub share_small : (i : ℕ) → i < length items → mag (share_in items h i) ≤ largest_volume
  share_small i l = le_trans (share_at_most (item_at items i) h) (limits.volume_size i l)

  -- the first items' shares
  pub sum_small : (i : ℕ) → i ≤ length items → mag (sumℤ i (share_in items h)) ≤ largest_sum
  sum_small i l =
      le_trans (sumℤ-size i largest_volume (share_in items h) (λ k m. share_small k (omega arith)))
      (mul-le-mul {n₁ = i} {n₂ = most_items} (omega (arith, limits.few)) (le_refl (largest_volume + 1)))

  pub shares_small : mag (shares_of items h) ≤ largest_sum
  unfolding shares_of
  shares_small = sum_small (length items) (le_refl _)

sum_of_nothing : (n : ℕ) (f : ℕ → ℤ) → ((i : ℕ) → f i ≡ pos 0) → sumℤ n f ≡ pos 0
unfolding sumℤ
sum_of_nothing zero f none = refl
sum_of_nothing (suc n) f none = rw (sum_of_nothing n f none, none n)

pub no_shares_at_bottom : (items : List Deadwood) → shares_of items 0 ≡ pos 0
unfolding shares_of
no_shares_at_bottom items = sum_of_nothing (length items) (share_in items 0) (λ i. no_share_at_bottom (item_at items i))

pub no_shares_of_none : (h : ℕ) → shares_of [] h ≡ pos 0
unfolding shares_of
no_shares_of_none h = sumℤ-zero (share_in [] h)
