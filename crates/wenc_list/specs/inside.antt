-- What only private functions and proofs need: no contract of a public call reaches it.
pub mod Contents
pub mod Taken
