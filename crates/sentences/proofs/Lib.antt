-- Laws of the sentences, and of refusals that have one.
pub mod SentencesLaws
pub mod KnownLaws
pub mod Lines
