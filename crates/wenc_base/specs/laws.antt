-- Why the laws of the forms hold, and what follows of a holder: for proofs, here and in the crates
-- above.
pub mod Groups
pub mod Lawful
pub mod Sound
pub mod Numbers
pub mod Words
pub mod Forms
pub mod Delimited
pub mod Exports
pub mod Types
pub mod Composites
pub mod Entities
pub mod Sections
pub mod Serves
pub mod Holders
pub mod Members
pub mod Names
pub mod Parents
