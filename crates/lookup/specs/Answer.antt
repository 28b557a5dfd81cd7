-- The answers of both lookups: the tests in the paper's order, each with its number, its place and what it is about, and the
-- figure where all pass. Assumes nothing.
use Rattle.std.specs.Prelude.{ℕ, ◌<◌, ◌≡◌, true, List, [], ◌∷◌, leb, Result, Ok, Err}
use Rattle.measure.specs.declared.dip_height.DipHeight.{DipHeight}
use Rattle.measure.specs.declared.volume.Volume.{Volume}
use Rattle.measure.specs.Quantity.{dip_height, dip_units, volume, volume_units}
use Rattle.refusal.specs.declared.About.{About}
use Rattle.refusal.specs.declared.Refusal.{Refusal}
use Rattle.refusal.specs.Test.{Test, about, test, verdict, Verdict}
use Rattle.sentences.specs.Sentences.{of_table, of_height, of_volume}
use Rattle.lookup.specs.Table.{last_row, sound_table}
use Rattle.lookup.specs.Litres.{litres, OnTable}
use Rattle.lookup.specs.Height.{height_for, Lowest}

-- ---- what the tests are about

-- 11: the DH and the step that a table was lent with
abbrev pub unsound : (dh step : ℕ) → About
unsound dh step = about of_table dh step 0 0

-- 12: a height, which goes up to DH
abbrev pub too_high : (h dh : ℕ) → About
too_high h dh = about of_height 0 h 0 dh

-- 13: a volume, which goes up to the last row
abbrev pub too_much : (w last : ℕ) → About
too_much w last = about of_volume 0 w 0 last

-- ---- litres at a height

abbrev pub LitresAnswer : Type 0
LitresAnswer = Result Volume Refusal

abbrev pub litres_tests : (dh step : ℕ) (table : List ℕ) (h : ℕ) → List Test
litres_tests dh step table h = test 11 0 (sound_table dh step table) (unsound dh step) ∷ test 12 0 (leb h dh) (too_high h dh) ∷ []

abbrev pub litres_by : Verdict → ℕ → LitresAnswer
litres_by (Ok tt) v = Ok (volume v)
litres_by (Err r) v = Err r

unfoldable pub litres_answer : (dh step : ℕ) (table : List ℕ) (h : ℕ) → LitresAnswer
litres_answer dh step table h = litres_by (verdict (litres_tests dh step table h)) (litres dh step table h)

-- of a volume given as the answer, what it is, said outright
abbrev pub ReadOff : (dh step : ℕ) (table : List ℕ) (h : ℕ) → LitresAnswer → Type 0
ReadOff dh step table h (Ok v) = OnTable dh step table h (volume_units v)
ReadOff dh step table h (Err r) = Unit {0}

-- what refusal 12 is given for: the table is sound, and the height is above DH
abbrev pub TooHigh : (dh step : ℕ) (table : List ℕ) (h : ℕ) → Type 0
TooHigh dh step table h = (sound_table dh step table ≡ true) × (dh < h)

-- ---- the lowest height for a volume

abbrev pub HeightAnswer : Type 0
HeightAnswer = Result DipHeight Refusal

abbrev pub height_tests : (dh step : ℕ) (table : List ℕ) (w : ℕ) → List Test
height_tests dh step table w =
    let last = last_row dh step table in
    test 11 0 (sound_table dh step table) (unsound dh step) ∷ test 13 0 (leb w last) (too_much w last) ∷ []

abbrev pub height_by : Verdict → ℕ → HeightAnswer
height_by (Ok tt) h = Ok (dip_height h)
height_by (Err r) h = Err r

unfoldable pub height_answer : (dh step : ℕ) (table : List ℕ) (w : ℕ) → HeightAnswer
height_answer dh step table w = height_by (verdict (height_tests dh step table w)) (height_for dh step table w)

-- of a height given as the answer, what it is, said outright
abbrev pub Reached : (dh step : ℕ) (table : List ℕ) (w : ℕ) → HeightAnswer → Type 0
Reached dh step table w (Ok h) = Lowest dh step table w (dip_units h)
Reached dh step table w (Err r) = Unit {0}

-- what refusal 13 is given for: the table is sound, and its last row is below the volume
abbrev pub TooMuch : (dh step : ℕ) (table : List ℕ) (w : ℕ) → Type 0
TooMuch dh step table w = (sound_table dh step table ≡ true) × (last_row dh step table < w)
