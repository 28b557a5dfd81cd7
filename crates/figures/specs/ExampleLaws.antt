-- Worked examples, each a computation: texts that are figures, and texts that are none. Assumes nothing.
use Rattle.std.specs.Prelude.{◌≡◌, refl, Some, None}
use Rattle.text.specs.Ascii.{ascii}
use Rattle.figures.specs.Figures.{figure_from, figure_of}

pub figures :
    (figure_of (ascii "50") ≡ Some 5000)
    × (figure_of (ascii "50.0") ≡ Some 5000)
    × (figure_of (ascii "50.00") ≡ Some 5000)
    × (figure_of (ascii "0.5") ≡ Some 50)
    × (figure_of (ascii "00000001") ≡ Some 100)
    × (figure_of (ascii "42949672.95") ≡ Some 4_294_967_295)
unfolding figure_from figure_of
figures = (refl, refl, refl, refl, refl, refl)

pub no_figures :
    (figure_of (ascii "") ≡ None)
    × (figure_of (ascii "5.") ≡ None)
    × (figure_of (ascii ".5") ≡ None)
    × (figure_of (ascii "50.000") ≡ None)
    × (figure_of (ascii "-1") ≡ None)
    × (figure_of (ascii " 5") ≡ None)
    × (figure_of (ascii "1e3") ≡ None)
    × (figure_of (ascii "42949672.96") ≡ None)
    × (figure_of (ascii "123456789") ≡ None)
unfolding figure_from figure_of
no_figures = (refl, refl, refl, refl, refl, refl, refl, refl, refl)
