-- `rewrite::rewritten::put_rewritten` meets its contract: the header and the sections, with the sections of the old format. Assumes nothing.
use Rattle.std.proofs.Common.{ℕ, ◌≡◌, ◌∙◌, ap, List, ◌++◌}
use Rattle.text.specs.WroteLaws.{wrote_both}
use Rattle.file.specs.declared.format.Format.{Format}
use Rattle.file.specs.declared.section.Section.{Section}
use Rattle.file.specs.Format.{format48}
use Rattle.file.specs.Section.{courses, deadwood}
use Rattle.rewrite.specs.Rewritten.{section_bytes, header_of, no_seams, rewritten}
use Rattle.rewrite.proofs.RewrittenLaws.{accepted_placed, rewritten_fits}
use Rattle.rewrite.proofs.rewritten.put_rewritten.Goals as goal

module _ (s : List ℕ) {f : Format} {x : Section} (old : f ≡ format48) where
  old-courses : x ≡ courses f s → x ≡ courses format48 s
  old-courses e = e ∙ ap (λ (g : Format). courses g s) old

  old-deadwood : x ≡ deadwood f s → x ≡ deadwood format48 s
  old-deadwood e = e ∙ ap (λ (g : Format). deadwood g s) old

whole : (s : List ℕ) {x y : Section} → x ≡ courses format48 s → y ≡ deadwood format48 s
    → header_of s x.count y.count ++ (section_bytes s x ++ (section_bytes s y ++ no_seams x.count)) ≡ rewritten s
unfolding rewritten
whole s e h = rw (e, h)

pub courses-c-requires : goal.courses-c-requires
courses-c-requires c = rw c.header_of_48-f.ensures (accepted_placed _ c.requires).header

pub deadwood-d-requires : goal.deadwood-d-requires
deadwood-d-requires c = rw c.header_of_48-f.ensures (accepted_placed _ c.requires).header

pub put_header-requires : goal.put_header-requires
put_header-requires c =
    let old = c.header_of_48-f.ensures in
    let s = c.args.s.now in (
      (accepted_placed s c.requires).header,
      rw (ap (λ y. y.count) (c.c.view_is ∙ old-courses s old c.courses-c.ensures)) (accepted_placed s c.requires).few_courses,
      rw (ap (λ y. y.count) (c.d.view_is ∙ old-deadwood s old c.deadwood-d.ensures)) (accepted_placed s c.requires).few_items,
    )

pub put_sections-requires : goal.put_sections-requires
put_sections-requires c =
    let old = c.header_of_48-f.ensures in
    let s = c.args.s.now in (
      rw (old-courses s old c.courses-c.ensures) (accepted_placed s c.requires).courses_inside,
      rw (old-deadwood s old c.deadwood-d.ensures) (accepted_placed s c.requires).deadwood_inside,
    )

pub returns-clause-put : goal.returns-clause-put
returns-clause-put c =
    let old = c.header_of_48-f.ensures in
    let s = c.args.s.now in
    let header = rw (ap (λ y. y.count) c.c.view_is, ap (λ y. y.count) c.d.view_is) at c.put_header.ensures in
    let parts = wrote_both header c.put_sections.ensures in
    rw (← whole s (old-courses s old c.courses-c.ensures) (old-deadwood s old c.deadwood-d.ensures)) parts

pub returns-clause-s_len_bound : goal.returns-clause-s_len_bound
returns-clause-s_len_bound c = rewritten_fits c.args.s.now c.requires
