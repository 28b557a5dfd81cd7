-- Worked examples, each a computation: numbers as they are printed. Assumes nothing.
use Rattle.std.specs.Prelude.{◌≡◌, refl}
use Rattle.text.specs.Ascii.{ascii}
use Rattle.text.specs.Digits.{digits, hundredths}
use Rattle.text.specs.Grouped.{in_threes, grouped}

pub printed :
    (digits 0 ≡ ascii "0")
    × (hundredths 5 ≡ ascii "0.05")
    × (hundredths 2796 ≡ ascii "27.96")
    × (grouped 99999 ≡ ascii "999.99")
    × (grouped 270000 ≡ ascii "2,700.00")
    × (grouped 123456789005 ≡ ascii "1,234,567,890.05")
unfolding digits hundredths in_threes grouped
printed = (refl, refl, refl, refl, refl, refl)
