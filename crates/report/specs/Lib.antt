-- What the programs say on standard output and on standard error.
pub mod Report
