-- `rows::net_at` meets its contract: the gross volume has 32 bits and the shares are small, so the difference fits. Assumes nothing.
use Rattle.std.proofs.Common.{arith, rules, ◌≡◌, ◌<◌, ◌^◌, ℕ, ℤ, pos, neg_ℤ, ◌-ℤ◌, ◌∙◌, ap, ap₂, w64, to_z, of_z, to_z-of_z}
use Rattle.laws.proofs.SignedLaws.{sum_size, negated_size}
use Rattle.measure.specs.Quantity.{dip_units, volume_units}
use Rattle.tank.specs.Tank.{gross_at}
use Rattle.deadwood.specs.ListLaws.{shares_small}
use Rattle.rows.specs.Rows.{shares_at, net_at}
use Rattle.rows.proofs.net_at.Goals as goal

pub overflow_sub-result : goal.overflow_sub-result
overflow_sub-result c =
    let v = c.args.survey.now in
    let h = dip_units c.args.h in
    let gross : to_z w64 (of_z w64 c.from.result) ≡ pos c.units.result = search rules in
    let shares : to_z w64 (of_z w64 c.sum_of_shares.result) ≡ shares_at v h = search rules in
    rw (gross, shares)
    (record { sfits = omega (arith, c.units.type_inv, shares_small v.deadwood h (rw (← c.survey.view_is) c.survey.invariant.limits.items), negated_size (shares_at v h), sum_size (pos c.units.result) (neg_ℤ (shares_at v h))) })

pub returns : goal.returns
unfolding net_at
returns c =
    let v = c.args.survey.now in
    let gross : to_z w64 (of_z w64 c.from.result) ≡ pos c.units.result = search rules in
    let shares : to_z w64 (of_z w64 c.sum_of_shares.result) ≡ shares_at v (dip_units c.args.h) = search rules in
    to_z-of_z (overflow_sub-result c)
    ∙ ap₂ (λ (x y : ℤ). x -ℤ y) (gross ∙ ap pos (c.units.ensures ∙ ap volume_units c.gross.ensures) ∙ ap (λ w. pos (gross_at w.tank (dip_units c.args.h))) c.survey.view_is) shares
