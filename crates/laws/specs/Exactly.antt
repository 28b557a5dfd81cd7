-- One thing exactly when another. Assumes nothing.

pub record Exactly (A B : Type 0) : Type 0 where
  pub only_when : A → B
  pub whenever : B → A
