-- `convert::written` meets its contract: the file that is put stands at the front, and zeros behind it. Assumes nothing.
use Rattle.std.proofs.Common.{rules, ℕ, ◌≤◌, ◌≡◌, ap₂, List, length, replicate}
use Rattle.std.proofs.lemmas.List.{length-replicate}
use Rattle.rewrite.specs.Rewritten.{rewritten, most_bytes}
use Rattle.text.specs.Put.{Put}
use Rattle.text.specs.PutLaws.{put_fits}
use Rattle.text.specs.WroteLaws.{wrote_left}
use Rattle.convert.specs.declared.Converted.{Converted}
use Rattle.convert.specs.Converted.{written}
use Rattle.convert.proofs.written.Goals as goal

abbrev converted-to : ℕ → List ℕ → Converted
converted-to length file = record { length = length; file = file }

is-written : (s : List ℕ) {file : List ℕ} {n : ℕ} → length (rewritten s) ≤ most_bytes → Put 0 (rewritten s) (replicate most_bytes 0) file n → converted-to n file ≡ written s
is-written s short put =
    let whole = put_fits put (rw length-replicate short) in
    ap₂ converted-to whole.1 whole.0

pub returns : goal.returns
returns c = is-written _ c.put_rewritten.ensures.s_len_bound (wrote_left c.put_rewritten.ensures.put (search rules))
