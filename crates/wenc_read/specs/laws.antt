-- What follows of the readers: for proofs, here and in the crates above.
pub mod Tables
pub mod Begins
pub mod Exact
