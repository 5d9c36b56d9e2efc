-- Why the laws hold, and what follows of the definitions: for proofs, here and in the crates above.
pub mod Declarations
pub mod TypeState
pub mod CoreTypes
pub mod DefinedTypes
pub mod FuncStages
pub mod ComponentTypes
pub mod TypeTrees
