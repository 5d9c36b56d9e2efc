-- What copies are: for proofs, here and in the crates above.
pub mod Copies
