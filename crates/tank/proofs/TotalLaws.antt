-- The parts' totals against each other, and condition 3 in the paper's own words. Fitting slabs of all parts total no more than covering
-- slabs of the same cut, cut finer they total no less, and every denominator is above 0. The tolerance is the paper's formula, and
-- condition 3 of a tank says of shell, flanges and heads, each with its count, what the paper says. Assumes nothing.
use Rattle.std.specs.Prelude.{ℕ, suc, ◌<◌, ◌≡◌, List, [], ◌∷◌}
use Rattle.std.proofs.Common.{mul-pos, arith}
use Rattle.slabs.specs.Fraction.{◌⊑◌}
use Rattle.slabs.specs.Slab.{Cut, Some}
use Rattle.slabs.specs.FractionLaws.{sums_keep_order, under_of_sum}
use Rattle.heads.specs.CutLaws.{heads_fit_under, heads_refine, heads_under}
use Rattle.tank.specs.declared.tank.Tank.{Tank}
use Rattle.tank.specs.Part.{Shape, cylinder, head_pair, Filled}
use Rattle.tank.specs.Tank.{parts_of, filled_at}
use Rattle.tank.specs.Slabs.{cylinder_fitting, cylinder_covering, shape_fitting, shape_covering, fitting_of, covering_of, fitting_total, covering_total, film_of, film, tolerance_of, added, tolerance}
use Rattle.tank.specs.Condition3.{Condition3}
use Rattle.tank.specs.PartLaws.{LengthLimits, EachWithinLimits, none, more}
use Rattle.tank.specs.CylinderCutLaws.{cylinder_fits_under, cylinder_refines}
use Rattle.tank.specs.TotalLaws.{finer, tolerance_in_words, InWords}

shape_fits_under : (s : Shape) (d l h : ℕ) (cut : Cut) → LengthLimits s d l → Some cut → shape_fitting s d l h cut ⊑ shape_covering s d l h cut
shape_fits_under cylinder d l h cut length some = cylinder_fits_under d l h cut.levels
shape_fits_under (head_pair kind) d l h cut length some = heads_fit_under d l h cut kind length some

shape_refines : (s : Shape) (d l h : ℕ) (cut times : Cut) → LengthLimits s d l → Some (finer cut times)
    → shape_fitting s d l h cut ⊑ shape_fitting s d l h (finer cut times)
shape_refines cylinder d l h cut times length some = cylinder_refines d l h cut.levels times.levels
shape_refines (head_pair kind) d l h cut times length some = heads_refine d l h cut kind times.levels times.lengths length some

shape_under : (s : Shape) (d l h : ℕ) (cut : Cut) → 0 < d → Some cut → (0 < (shape_fitting s d l h cut).under) × (0 < (shape_covering s d l h cut).under)
unfolding cylinder_fitting cylinder_covering
shape_under cylinder d l h cut some-d some = (mul-pos some.0 some.0, mul-pos some.0 some.0)
shape_under (head_pair kind) d l h cut some-d some = heads_under d l h cut kind some-d some

pub totals_fit_under : (fs : List Filled) (cuts : ℕ → Cut) → EachWithinLimits fs → ((k : ℕ) → Some (cuts k))
    → fitting_total fs cuts ⊑ covering_total fs cuts
unfolding fitting_total covering_total fitting_of covering_of
totals_fit_under [] cuts none some = omega arith
totals_fit_under (f ∷ fs) cuts (more s ss) some =
    sums_keep_order (fitting_of f (cuts 0)) (covering_of f (cuts 0)) (fitting_total fs (λ k. cuts (suc k))) (covering_total fs (λ k. cuts (suc k)))
    (shape_fits_under f.part.shape f.part.d f.part.l f.height (cuts 0) s.length (some 0))
    (totals_fit_under fs (λ k. cuts (suc k)) ss (λ k. some (suc k)))

-- each part cut finer by its `times`
pub totals_refine : (fs : List Filled) (cuts times : ℕ → Cut) → EachWithinLimits fs → ((k : ℕ) → Some (finer (cuts k) (times k)))
    → fitting_total fs cuts ⊑ fitting_total fs (λ k. finer (cuts k) (times k))
unfolding fitting_total fitting_of
totals_refine [] cuts times none some = omega arith
totals_refine (f ∷ fs) cuts times (more s ss) some =
    sums_keep_order (fitting_of f (cuts 0)) (fitting_of f (finer (cuts 0) (times 0)))
    (fitting_total fs (λ k. cuts (suc k))) (fitting_total fs (λ k. finer (cuts (suc k)) (times (suc k))))
    (shape_refines f.part.shape f.part.d f.part.l f.height (cuts 0) (times 0) s.length (some 0))
    (totals_refine fs (λ k. cuts (suc k)) (λ k. times (suc k)) ss (λ k. some (suc k)))

pub totals_under : (fs : List Filled) (cuts : ℕ → Cut) → EachWithinLimits fs → ((k : ℕ) → Some (cuts k))
    → (0 < (fitting_total fs cuts).under) × (0 < (covering_total fs cuts).under)
unfolding fitting_total covering_total fitting_of covering_of
totals_under [] cuts none some = (omega arith, omega arith)
totals_under (f ∷ fs) cuts (more s ss) some =
    let here = shape_under f.part.shape f.part.d f.part.l f.height (cuts 0) s.d_low (some 0) in
    let rest = totals_under fs (λ k. cuts (suc k)) ss (λ k. some (suc k)) in (
      under_of_sum (fitting_of f (cuts 0)) (fitting_total fs (λ k. cuts (suc k))) here.0 rest.0,
      under_of_sum (covering_of f (cuts 0)) (covering_total fs (λ k. cuts (suc k))) here.1 rest.1,
    )

pub tolerance_is : (t : Tank) (h : ℕ) → tolerance (filled_at t h) ≡ tolerance_in_words t h
unfolding tolerance film film_of added tolerance_of filled_at parts_of
tolerance_is t h = omega arith

pub in_words : (t : Tank) (h g : ℕ) (cuts : ℕ → Cut) → Condition3 (filled_at t h) g cuts → InWords t h g (cuts 0).levels (cuts 1).levels (cuts 2).levels (cuts 2).lengths
unfolding fitting_total covering_total fitting_of covering_of filled_at parts_of
in_words t h g cuts holds =
    record { fits = rw (← tolerance_is t h) holds.fits; covers = rw (← tolerance_is t h) holds.covers }
