-- Why the laws of the forms hold: for proofs, here and in the crates above.
pub mod Instances
pub mod Items
pub mod Names
pub mod Pairs
pub mod Space
