-- `sentences::blanks::line_at` meets its contract: the library's n-th part is the line. Assumes nothing.
use Rattle.std.specs.Prelude.{ℕ, ◌≡◌, refl, List, slice_get}
use Rattle.std.specs.declared.option.Option.{Option}
use Rattle.std.specs.declared.option.Option.TheVariants.{None, Some}
use Rattle.std.specs.Option.{option_map, unwrap_or}
use Rattle.std.specs.List.{slice_split}
use Rattle.std.proofs.Common.{rules, tests, Bor}
use Rattle.std.proofs.lemmas.Iterator.Consumers.{nth_from_yields_List}
use Rattle.std.proofs.lemmas.Iterator.Splits.{YieldsList-from_slice_split}
use Rattle.sentences.proofs.Lines.{is_end, part_is_line}
use Rattle.sentences.proofs.blanks.line_at.Goals as goal

read : (o : Option (Bor (List ℕ))) (none : Bor (List ℕ)) → (unwrap_or o none).now ≡ unwrap_or (option_map (λ x. x.now) o) none.now
read None none = refl
read (Some x) none = refl

pub returns : goal.returns
returns c =
    let part : option_map (λ x. x.now) c.nth.result ≡ slice_get (slice_split is_end c.args.text.now) c.args.n =
    nth_from_yields_List c.nth.result _ c.args.n c.nth.ensures.ran
    (YieldsList-from_slice_split _ is_end c.args.text.now c.split.ensures.rest c.split.ensures.done c.split.ensures.closure (λ x b q k. search (rules, tests))) in
    rw (c.unwrap_or.ensures, ← part_is_line c.args.n c.args.text.now, ← part) (read c.nth.result _)
