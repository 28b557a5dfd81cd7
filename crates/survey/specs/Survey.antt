-- The survey that a file holds, read by its format, and what decoding a file gives: its survey where no test refuses it, else the
-- refusal. Assumes nothing.
use Rattle.std.specs.Prelude.{ℕ, List, [], Result, Ok, Err}
use Rattle.measure.specs.Diameter.{smallest}
use Rattle.measure.specs.Quantity.{diameter}
use Rattle.refusal.specs.declared.Refusal.{Refusal}
use Rattle.refusal.specs.Test.{verdict, Verdict}
use Rattle.heads.specs.declared.kind.HeadKind.TheVariants.{Flat}
use Rattle.heads.specs.Kind.{kind_of}
use Rattle.tank.specs.declared.tank.Tank.{Tank}
use Rattle.file.specs.declared.format.Format.{Format}
use Rattle.file.specs.Word.{word}
use Rattle.file.specs.Layout.{kind_at, dh_at, l1_at, l2_at, l3_at, step_at}
use Rattle.file.specs.Format.{today}
use Rattle.records.specs.Item.{items_of}
use Rattle.dimensions.specs.Dimensions.{d1, d2}
use Rattle.deadwood.specs.declared.item.Deadwood.{Deadwood}
use Rattle.survey.specs.declared.decode.Survey.{Survey}
use Rattle.survey.specs.Tests.{file_tests}

-- a survey of these parts, whatever file they are of
abbrev pub survey_of_parts : Tank → (step : ℕ) → List Deadwood → Survey
survey_of_parts tank step deadwood = record { tank = tank; step = step; deadwood = deadwood }

-- a tank of these diameters, with the file's other sizes
abbrev pub tank_of : List ℕ → (d1 d2 : ℕ) → Tank
tank_of s d1 d2 =
    record {
      kind = kind_of (word s kind_at);
      dh = diameter (word s dh_at);
      d1 = diameter d1;
      d2 = diameter d2;
      l1 = word s l1_at;
      l2 = word s l2_at;
      l3 = word s l3_at;
    }

-- a survey of these diameters
abbrev pub survey_with : Format → List ℕ → (d1 d2 : ℕ) → Survey
survey_with f s d1 d2 =
    record {
      tank = tank_of s d1 d2;
      step = word s step_at;
      deadwood = items_of f s;
    }

abbrev pub survey_of : Format → List ℕ → Survey
survey_of f s = survey_with f s (d1 f s) (d2 f s)

-- a survey of nothing
abbrev pub no_survey : Survey
no_survey =
    record {
      tank = record { kind = Flat; dh = diameter smallest; d1 = diameter smallest; d2 = diameter smallest; l1 = 0; l2 = 0; l3 = 0 };
      step = 0;
      deadwood = [];
    }

-- what decoding a file gives: its survey, or its refusal
abbrev pub Decoded : Type 0
Decoded = Result Survey Refusal

-- the survey in it; of a refusal a survey of nothing
abbrev pub survey_in : Decoded → Survey
survey_in (Ok v) = v
survey_in (Err r) = no_survey

abbrev pub decoded_by : Verdict → Survey → Decoded
decoded_by (Ok tt) v = Ok v
decoded_by (Err r) v = Err r

-- of a file in a format
abbrev pub decoded_as : Format → List ℕ → Decoded
decoded_as f s = decoded_by (verdict (file_tests f s)) (survey_of f s)

-- .. and in today's
unfoldable pub decoded : List ℕ → Decoded
decoded s = decoded_as today s
