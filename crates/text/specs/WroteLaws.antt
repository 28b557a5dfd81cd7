-- Laws of text that a writer put: nothing, one text behind another, and what is left when the writer is gone. Assumes nothing.
use Rattle.std.specs.Prelude.{ℕ, ◌≡◌, refl, List, [], ◌++◌}
use Rattle.std.proofs.Common.{◌∙◌}
use Rattle.text.specs.declared.put.Writer.{Writer}
use Rattle.text.specs.Put.{Put}
use Rattle.text.specs.PutLaws.{put_nothing, put_both}
use Rattle.text.specs.Wrote.{Wrote}

pub wrote_nothing : (w : Writer) → Wrote [] w w
wrote_nothing w = record { put = put_nothing w.at w.out.now; kept = refl }

pub wrote_both : {s t : List ℕ} {a b c : Writer} → Wrote s a b → Wrote t b c → Wrote (s ++ t) a c
wrote_both first second = record { put = put_both first.put second.put; kept = second.kept ∙ first.kept }

-- what the writer left stands in the memory
pub wrote_left : {text now : List ℕ} {before after : Writer} → Wrote text before after → now ≡ after.out.now → Put before.at text before.out.now now after.at
wrote_left wrote left = rw left wrote.put
