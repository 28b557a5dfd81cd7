-- The laws that stand on what the call leaves and on the answer: condition 3 of every row, and a retired refusal.
pub mod Condition3Laws
pub mod RetiredLaws
