-- Worked examples, each a computation: lines as they are printed. Assumes nothing.
use Rattle.std.specs.Prelude.{◌≡◌, refl, pos, negsuc}
use Rattle.text.specs.Ascii.{ascii}
use Rattle.text.specs.Digits.{digits, hundredths}
use Rattle.lines.specs.Lines.{rows_line, row_line, refused_line, figure_line, signed_line}

pub printed :
    (rows_line 6 ≡ ascii "rows 6\n")
    × (row_line 5000 1398 ≡ ascii "50.00 13.98\n")
    × (refused_line 12 0 ≡ ascii "refused 12 0\n")
    × (figure_line 4999 ≡ ascii "49.99\n")
    × (signed_line (pos 1398) ≡ ascii "+13.98\n")
    × (signed_line (negsuc 4) ≡ ascii "-0.05\n")
    × (signed_line (pos 0) ≡ ascii "0.00\n")
unfolding digits hundredths rows_line row_line refused_line figure_line signed_line
printed = (refl, refl, refl, refl, refl, refl, refl)
