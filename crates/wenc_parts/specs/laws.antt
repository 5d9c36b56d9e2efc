-- Why the laws of the forms hold: for proofs, here and in the crates above.
pub mod SectionIds
pub mod Types
pub mod Exports
pub mod Imports
pub mod Instances
pub mod Aliases
