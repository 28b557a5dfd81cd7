-- What is known of a program's arguments, whatever they hold. Assumes nothing.
use Rattle.std.specs.Prelude.{ℕ, ◌≤◌, ◌≡◌, is_some, IfSome, List, length}
use Rattle.laws.specs.Order.{pick}
use Rattle.arguments.specs.declared.Own.{Own}

-- argument 0 is the program's name, and 1 and 2 are `-f FILE` where a file is named
pub record Begins (own : Own) : Type 0 where
  pub named : IfSome own.file (λ i. i ≡ 2)
  pub at : own.first ≡ pick (is_some own.file) 3 1
  pub there : pick (is_some own.file) 3 0 ≤ own.end
  -- which follows, and is said so that a sum with it is seen to fit
  pub low : own.first ≤ 3

-- a program knows no word that is longer
abbrev pub longest_word : ℕ
longest_word = 16

-- read from some text, which is an argument's, or empty where that is missing or longer
pub record ReadFrom {A : Type 0} (read : List ℕ → A) (r : A) : Type 0 where
  pub text : List ℕ
  pub is : r ≡ read text
  pub short : length text ≤ 32
