-- Bytes in no section are ignored (document 01, 'The survey file'): two files that agree in the header's bytes and in those of every
-- section, and whose lengths refusals 1 and 3 find alike, decode alike. Assumes nothing.
use Rattle.survey.specs.Survey.{survey_in, Decoded}
use Prim.Native.Nat.{ℕ, ◌≤◌, ◌<◌}
use Rattle.std.specs.Prelude.{◌≡◌, get_or}
use mathlib.Core.List.{List, Memᴰ}
use Rattle.std.proofs.Math.ListN.{length}
use Rattle.refusal.specs.Test.{within, verdict_in}
use Rattle.refusal.specs.PlainLaws.{plain}
use Rattle.file.specs.declared.format.Format.{Format}
use Rattle.file.specs.declared.section.Section.{Section}
use Rattle.file.specs.Format.{today}
use Rattle.file.specs.Limits.{largest_file}
use Rattle.file.specs.Section.{sections, end_of, placed}

-- two files agree in the bytes from one place up to another
abbrev pub SameBytes : (s s' : List ℕ) (start end : ℕ) → Type 0
SameBytes s s' start end = (k : ℕ) → start ≤ k → k < end → get_or s k 0 ≡ get_or s' k 0

-- two files in a format agree in the header and in each section, in its bytes and in whether it is well placed; and refusal 1 is given
-- for both or for none
pub record SameSectionsAs (f : Format) (s s' : List ℕ) : Type 0 where
  pub size : within f.header (length s) largest_file ≡ within f.header (length s') largest_file
  pub header : SameBytes s s' 0 f.header
  pub bytes : (x : Section) → Memᴰ x (sections f s) → SameBytes s s' x.offset (end_of x)
  pub place : (x : Section) → Memᴰ x (sections f s) → placed f.header (length s) x ≡ placed f.header (length s') x

-- .. and in today's
abbrev pub SameSections : (s s' : List ℕ) → Type 0
SameSections s s' = SameSectionsAs today s s'

-- what is decoded: refused with the same number and place or not at all, and the same survey. What a refusal is about may differ, since of a
-- bad place the file's size is told
abbrev pub Alike : Decoded → Decoded → Type 0
Alike d d' = (plain (verdict_in d) ≡ plain (verdict_in d')) × ((survey_in d) ≡ (survey_in d'))
