-- What no heads within the limits exceed; the laws of the volume stand in proofs/. Assumes nothing.
use Rattle.std.specs.Prelude.{ℕ}

-- in v; the largest heads hold less
abbrev pub most_heads : ℕ
most_heads = 13000000
