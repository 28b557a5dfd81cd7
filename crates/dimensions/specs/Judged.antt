-- What judging a file gives: DH, D1 and D2 where no test refuses it, else the refusal. Assumes nothing.
use Rattle.std.specs.Prelude.{ℕ, List, Result, Ok, Err}
use Rattle.measure.specs.Quantity.{diameter}
use Rattle.refusal.specs.Test.{verdict, Verdict}
use Rattle.file.specs.declared.format.Format.{Format}
use Rattle.file.specs.Word.{word}
use Rattle.file.specs.Layout.{dh_at, left_at, right_at}
use Rattle.dimensions.specs.declared.sums.Sums.{Sums}
use Rattle.refusal.specs.declared.Refusal.{Refusal}
use Rattle.dimensions.specs.declared.dimensions.Diameters.{Diameters}
use Rattle.dimensions.specs.Dimensions.{shell_diameter, head_diameter, d1, d2}
use Rattle.dimensions.specs.Tests.{diameter_tests}

abbrev pub judged_with : Verdict → (dh d1 d2 : ℕ) → Result Diameters Refusal
judged_with (Ok tt) dh d1 d2 = Ok (record { dh = diameter dh; d1 = diameter d1; d2 = diameter d2 })
judged_with (Err r) dh d1 d2 = Err r

-- by refusal 7 alone, of a file with these sums
abbrev pub diameters_judged : List ℕ → Sums → Result Diameters Refusal
diameters_judged s t =
    let dh = word s dh_at in
    let d1 = shell_diameter t in
    let d2 = head_diameter t (word s left_at) (word s right_at) in
    judged_with (verdict (diameter_tests dh d1 d2)) dh d1 d2

-- of a file
abbrev pub judged_by : Format → List ℕ → Verdict → Result Diameters Refusal
judged_by f s v = judged_with v (word s dh_at) (d1 f s) (d2 f s)
