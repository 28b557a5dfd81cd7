-- `deadwood::sum::sum_of_shares` meets its contract: each share is of an item within its limits, and every sum fits. Assumes nothing.
use Rattle.std.proofs.Common.{arith, ◌≡◌, ◌+◌, ◌<◌, ◌^◌, ℕ, List, length, get_or, sym, ap, ◌∙◌, ℤ, pos, ◌+ℤ◌, w64, to_z, of_z, SFits, add-one}
use Rattle.std.specs.Int.Signed.{mag}
use Rattle.std.proofs.lemmas.Int.{to_z-of_z}
use Rattle.std.proofs.lemmas.List.{get_or_default}
use Rattle.laws.specs.Signed.{sumℤ}
use Rattle.laws.proofs.SignedLaws.{sumℤ-zero, sumℤ-suc}
use Rattle.measure.specs.Quantity.{dip_units}
use Rattle.deadwood.specs.declared.item.Deadwood.{Deadwood}
use Rattle.deadwood.specs.Item.{deadwood, no_item, item_at}
use Rattle.deadwood.specs.Share.{share, share_in, shares_of}
use Rattle.deadwood.specs.ListLaws.{DeadwoodLimits, sum_small}
use Rattle.deadwood.proofs.sum.sum_of_shares.Goals as goal

module _ (items : List Deadwood) (i h : ℕ) (inside : i < length items) where
  -- what the code reads at a place of the list
  item_read : get_or items i (deadwood 0 0 (pos 0)) ≡ item_at items i
  item_read = get_or_default items i (deadwood 0 0 (pos 0)) no_item inside

  -- with one share more, through its bits, the sum is that of one item more ..
  added : {sum r : ℤ} → sum ≡ sumℤ i (share_in items h) → r ≡ share (get_or items i (deadwood 0 0 (pos 0))) h → mag r < 2 ^ 63
      → sum +ℤ to_z w64 (of_z w64 r) ≡ sumℤ (i + 1) (share_in items h)
  added {r = r} was now small =
      rw (to_z-of_z w64 r (record { sfits = small }), was, now, item_read, add-one i) (sym (sumℤ-suc i (share_in items h)))

  -- .. and fits
  fits : DeadwoodLimits items → SFits w64 (sumℤ (i + 1) (share_in items h))
  fits limits = record { sfits = omega (arith, sum_small items h limits (i + 1) (omega arith)) }

pub loop-item-init : goal.loop-item-init
loop-item-init c = sym (sumℤ-zero (share_in c.args.items.now (dip_units c.args.h)))

pub share-sum-requires : goal.share-sum-requires
share-sum-requires c =
    let i = c.loop-item.item-index in
    let inside = c.loop-item-test.true in
    rw (item_read c.args.items.now i 0 inside) (c.requires.rises i inside, c.requires.volume_size i inside)

pub overflow_add-sum : goal.overflow_add-sum
overflow_add-sum c =
    let items = c.args.items.now in
    let i = c.loop-item.item-index in
    let h = dip_units c.args.h in
    let inside = c.loop-item-test.true in
    rw (added items i h inside c.loop-item.invariant c.share-sum.ensures c.share-sum.type_inv) (fits items i h inside c.requires)

pub loop-item-preserved : goal.loop-item-preserved
loop-item-preserved c =
    let items = c.args.items.now in
    let i = c.loop-item.item-index in
    let h = dip_units c.args.h in
    let inside = c.loop-item-test.true in
    rw (added items i h inside c.loop-item.invariant c.share-sum.ensures c.share-sum.type_inv) (to_z-of_z w64 _ (fits items i h inside c.requires))

pub returns : goal.returns
unfolding shares_of
returns c =
    let all : c.loop-item.item-index ≡ length c.args.items.now = omega arith in
    c.loop-item.invariant ∙ ap (λ (n : ℕ). sumℤ n (share_in c.args.items.now (dip_units c.args.h))) all
