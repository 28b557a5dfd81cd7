-- `dimensions::sums::file_sums` meets its contract: course i is one of the file's and lies inside it, and the sums go on by what it adds. Assumes nothing.
use Rattle.std.proofs.Common.{arith, ◌≡◌, refl, ◌∙◌, ap, ap₂, ◌+◌, ◌≤◌, ◌<◌, add-one, length}
use Rattle.file.specs.Layout.{course_end}
use Rattle.file.specs.Section.{courses, record_at}
use Rattle.readings.specs.Reading.{rise_of}
use Rattle.readings.specs.FitLaws.{as_they_stand, courses_fit}
use Rattle.dimensions.specs.Dimensions.{sum_of, added, sums_over}
use Rattle.dimensions.specs.SumLaws.{sums_fit, file_sums_fit}
use Rattle.dimensions.proofs.sums.file_sums.Goals as goal

pub loop-i-init : goal.loop-i-init
unfolding sums_over
loop-i-init c = refl

pub rise_of-requires : goal.rise_of-requires
rise_of-requires c = as_they_stand c.args.f c.args.s.now c.requires

pub sum_of-requires : goal.sum_of-requires
sum_of-requires c =
    let f = c.args.f in
    let s = c.args.s.now in
    let i = c.loop-i.i in
    let one : i < (courses f s).count = omega (arith, ap (λ y. y.count) (c.x.view_is ∙ c.courses-x.ensures)) in
    let there = c.requires.placed.courses_inside in
    let inside : record_at (courses f s) i + course_end ≤ length s = omega (arith, there.long, there.inside i one) in
    rw (c.rise_of.ensures, c.record_at.ensures, c.courses-x.ensures) (inside, courses_fit f s c.requires i one)

pub add-t-requires : goal.add-t-requires
unfolding sum_of
add-t-requires c =
    let f = c.args.f in
    let s = c.args.s.now in
    let l = c.loop-i in
    let one : l.i < (courses f s).count = omega (arith, ap (λ y. y.count) (c.x.view_is ∙ c.courses-x.ensures)) in
    let passed : l.t.count ≡ l.i = rw l.invariant (sums_fit f s (courses_fit f s c.requires) l.i (omega arith)).count in
    omega (arith, passed, one, ap (λ t. t.count) c.sum_of.ensures, c.requires.placed.few_courses)

pub loop-i-preserved : goal.loop-i-preserved
unfolding sums_over
loop-i-preserved c =
    let s = c.args.s.now in
    let l = c.loop-i in
    let at = c.record_at.ensures ∙ ap (λ x. record_at x l.i) c.courses-x.ensures in
    rw add-one (c.add-t.ensures ∙ ap₂ added l.invariant (c.sum_of.ensures ∙ ap₂ (sum_of s) at c.rise_of.ensures))

-- all courses are passed
pub returns-clause-some_course : goal.returns-clause-some_course
returns-clause-some_course c =
    let f = c.args.f in
    let s = c.args.s.now in
    let l = c.loop-i in
    let all : l.i ≡ (courses f s).count = omega (arith, ap (λ y. y.count) (c.x.view_is ∙ c.courses-x.ensures)) in
    rw (l.invariant, all) (file_sums_fit f s c.requires).2
