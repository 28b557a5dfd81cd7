-- One thing exactly when another, the condition said in other words. Assumes nothing.
use Rattle.laws.specs.Exactly.{Exactly}

pub exactly_when : {A B C : Type 0} → Exactly A B → (B → C) → (C → B) → Exactly A C
exactly_when e to from = record { only_when = λ a. to (e.only_when a); whenever = λ c. e.whenever (from c) }
