-- Lists by their rows: `rows_of f n` is f 0, f 1, .., f (n - 1). Assumes nothing.
use Rattle.std.specs.Prelude.{ℕ, zero, suc, List, [], ◌∷◌, ◌++◌}

unfoldable pub rows_of : {A : Type 0} → (ℕ → A) → ℕ → List A
rows_of f zero = []
rows_of f (suc n) = rows_of f n ++ (f n ∷ [])
