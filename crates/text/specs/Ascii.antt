-- A text as the bytes that the programs print: the ASCII code of each of its characters. Assumes nothing.
use Rattle.std.specs.Prelude.{ℕ, List, [], ◌∷◌}
use Prim.Native.Char.{code}
use Prim.Native.String.{String, [] as none, ◌∷◌ as ◌before◌}

abbrev pub ascii : String → List ℕ
ascii none = []
ascii (◌before◌ c s) = code c ∷ ascii s
