-- The gross volume of a tank turned over: each part is off by 1 v at most, so a list of parts by as many v as it has parts. Assumes nothing.
use Rattle.std.specs.Prelude.{ℕ, ◌+◌, ◌<◌, ◌≡◌, refl, true, List, [], ◌∷◌, map, length}
use Rattle.std.proofs.Common.{arith}
use Rattle.measure.specs.Quantity.{diameter_units}
use Rattle.correction.proofs.CorrectionLaws.{corrected_same}
use Rattle.tank.specs.declared.tank.Tank.{Tank}
use Rattle.tank.specs.Part.{Part, volume_of, gross}
use Rattle.tank.specs.Tank.{parts_of, filled_to, filled_at, gross_at}
use Rattle.mirror.specs.Mirrored.{shape_mirrors, MirroredTank, mirror_tolerance, Around}
use Rattle.mirror.proofs.PartLaws.{volume_mirrored}

-- parts of one diameter, each of which mirrors
data EachMirrors (dh : ℕ) : List Part → Type 0 where
  none : EachMirrors dh []
  more : {p : Part} {ps : List Part} → p.d ≡ dh → shape_mirrors p.shape ≡ true → EachMirrors dh ps → EachMirrors dh (p ∷ ps)

module _ (dh h r : ℕ) (e : h + r ≡ dh) (some : 0 < dh) where
  part_mirrored : (p : Part) → p.d ≡ dh → shape_mirrors p.shape ≡ true
      → Around 1 (volume_of (filled_to dh h p)) (volume_of (filled_to dh r p)) (volume_of (filled_to dh dh p))
  unfolding volume_of
  part_mirrored p same mirrors =
      rw (same, corrected_same dh h (omega arith), corrected_same dh r (omega arith), corrected_same dh dh (omega arith))
      (volume_mirrored dh p.l h r e p.shape mirrors some)

  parts_mirrored : (ps : List Part) → EachMirrors dh ps
      → Around (length ps) (gross (map (filled_to dh h) ps)) (gross (map (filled_to dh r) ps)) (gross (map (filled_to dh dh) ps))
  unfolding gross
  parts_mirrored [] none = record { at_most = omega arith; at_least = omega arith }
  parts_mirrored (p ∷ ps) (more same mirrors rest) =
      let here = part_mirrored p same mirrors in
      let there = parts_mirrored ps rest in
      record { at_most = omega (arith, here.at_most, there.at_most); at_least = omega (arith, here.at_least, there.at_least) }

module _ (t : Tank) (some : 0 < diameter_units t.dh) (mirrors : MirroredTank t) where
  tank_mirrors : EachMirrors (diameter_units t.dh) (parts_of t)
  unfolding parts_of
  tank_mirrors = more mirrors.shell refl (more mirrors.heads refl (more mirrors.heads mirrors.kind none))

  -- gross at two heights that mirror each other is the full gross within 3 v
  pub gross_mirrored : (h r : ℕ) → h + r ≡ diameter_units t.dh
      → Around mirror_tolerance (gross_at t h) (gross_at t r) (gross_at t (diameter_units t.dh))
  unfolding gross_at filled_at parts_of
  gross_mirrored h r e =
      let total = parts_mirrored (diameter_units t.dh) h r e some (parts_of t) tank_mirrors in
      record { at_most = omega (arith, total.at_most); at_least = omega (arith, total.at_least) }
