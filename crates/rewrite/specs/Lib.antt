-- A file with a header of 48 bytes written anew in today's format: what it is, numbers in bytes that are put together, files that hold the same
-- numbers, and that the file written anew is accepted and has the same survey.
pub mod Rewritten
pub mod WordLaws
pub mod SameLaws
