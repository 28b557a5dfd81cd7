-- `figures::read_figure` meets its contract: a turn reads the digit at its place, and behind the digits it is the decimals' turn. Assumes
-- nothing.
use Rattle.std.proofs.Common.{◌-◌, ◌≡◌, refl, sym, ◌∙◌, ap, true, false, arith, add-one, length, length-drop, get_or, drop, drop_of_length-le, take_all}
use Rattle.std.proofs.lemmas.Bool.Decides.{nat_tests}
use Rattle.std.proofs.Math.Nat.{pow-suc}
use Rattle.figures.specs.Figures.{value_of, ended, figure_from, figure_of}
use Rattle.figures.specs.FiguresLaws.{whole_place, place, figure_on, figure_ended}
use Rattle.figures.proofs.read_figure.Goals as goal

pub loop-count-init : goal.loop-count-init
unfolding figure_of
loop-count-init c = (omega arith, omega arith, refl)

pub loop-count-preserved : goal.loop-count-preserved
loop-count-preserved c =
    let s = c.args.s.now in
    let at = c.loop-count in
    let b = get_or s at.count 0 in
    let goes : whole_place s at.count ≡ true = grind (arith, nat_tests) in
    let says : c.in-Some.d ≡ value_of b = grind arith in
    let high = (place s at.count goes).high in (
      omega arith,
      rw (add-one at.count) (omega (arith, pow-suc 10 at.count)),
      rw says (at.invariant.2 ∙ figure_on s at.count at.whole goes),
    )

pub returns-in_default : goal.returns-in_default
returns-in_default c =
    let s = c.args.s.now in
    let at = c.loop-count in
    let over : whole_place s at.count ≡ false = grind (arith, nat_tests) in
    c.with_whole.ensures
    ∙ ap (ended at.count at.whole) (take_all (length s - at.count) (drop at.count s) (omega (arith, length-drop at.count s)))
    ∙ sym (at.invariant.2 ∙ figure_ended s at.count at.whole over)

pub returns : goal.returns
unfolding figure_from
returns c =
    let s = c.args.s.now in
    let at = c.loop-count in
    let all : at.count ≡ length s = omega arith in
    c.with_whole-2.ensures ∙ sym (at.invariant.2 ∙ rw (drop_of_length-le s c.loop-count-test.false, all) refl)
