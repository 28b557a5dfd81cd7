-- From a survey to its table: the call's whole answer, and condition 3 of what it writes; then the laws of these.
pub mod Answer
pub mod Condition3
pub mod AnswerLaws
pub mod RetiredLaws
pub mod KnownLaws
pub mod NoDeadwoodLaws
pub mod PromiseLaws
