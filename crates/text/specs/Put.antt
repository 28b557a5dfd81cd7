-- Text put into lent memory: as much of it as there is room for, and what stands behind it is as it was. Assumes nothing.
use Rattle.std.specs.Prelude.{ℕ, ◌+◌, ◌-◌, ◌≤◌, min, ◌≡◌, List, ◌++◌, length, take, drop}

-- memory after a text was put at its start
abbrev pub overwritten : (text memory : List ℕ) → List ℕ
overwritten text memory = take (length memory) text ++ drop (length text) memory

-- .. and at a place of it
abbrev pub put_at : ℕ → (text memory : List ℕ) → List ℕ
put_at at text memory = take at memory ++ overwritten text (drop at memory)

-- the place behind what was put
abbrev pub behind : ℕ → (text memory : List ℕ) → ℕ
behind at text memory = at + min (length text) (length memory - at)

-- a text was put at a place: the memory after it, and the place behind it
pub record Put (at : ℕ) (text before after : List ℕ) (next : ℕ) : Type 0 where
  pub memory : after ≡ put_at at text before
  pub next_is : next ≡ behind at text before

-- a text is said in a memory: it was put at its start, and is there whole if the memory has so much room. The two parts between follow from
-- the first, and are what a slice of the first `count` bytes asks.
abbrev pub Says : (room : ℕ) (text before after : List ℕ) (count : ℕ) → Type 0
Says room text before after count =
    Put 0 text before after count
    × (count ≤ length after)
    × (count ≡ length (take count after))
    × (room ≤ length before → take count after ≡ text)
