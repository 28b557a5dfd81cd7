-- The lines that the programs print, each with its line end. Assumes nothing.
use Rattle.std.specs.Prelude.{ℕ, zero, suc, List, [], ◌++◌, ℤ, pos, negsuc, nat_abs}
use Rattle.text.specs.Ascii.{ascii}
use Rattle.text.specs.Digits.{digits, hundredths}

unfoldable pub rows_line : ℕ → List ℕ
rows_line n = ascii "rows " ++ digits n ++ ascii "\n"

unfoldable pub row_line : ℕ → ℕ → List ℕ
row_line h v = hundredths h ++ ascii " " ++ hundredths v ++ ascii "\n"

unfoldable pub refused_line : ℕ → ℕ → List ℕ
refused_line number place = ascii "refused " ++ digits number ++ ascii " " ++ digits place ++ ascii "\n"

unfoldable pub figure_line : ℕ → List ℕ
figure_line n = hundredths n ++ ascii "\n"

-- the sign of all but 0
abbrev pub sign_of : ℤ → List ℕ
sign_of (pos zero) = []
sign_of (pos (suc n)) = ascii "+"
sign_of (negsuc n) = ascii "-"

-- a difference, with its sign
unfoldable pub signed_line : ℤ → List ℕ
signed_line z = sign_of z ++ hundredths (nat_abs z) ++ ascii "\n"

-- room for each of these lines, and for the line of a row (SizeLaws)

abbrev pub line_size : ℕ
line_size = 32

abbrev pub row_size : ℕ
row_size = 24
