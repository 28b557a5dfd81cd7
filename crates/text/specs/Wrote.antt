-- Text that a writer put. Assumes nothing.
use Rattle.std.specs.Prelude.{ℕ, ◌≡◌, List}
use Rattle.text.specs.declared.put.Writer.{Writer}
use Rattle.text.specs.Put.{Put}

-- a text was put in the writer's memory at its place, and it stands behind the text; the memory is the one that was lent
pub record Wrote (text : List ℕ) (before after : Writer) : Type 0 where
  pub put : Put before.at text before.out.now after.out.now after.at
  pub kept : after.out.ghost_name ≡ before.out.ghost_name
