pub mod Kept
pub mod PassedOn
mod InARow
pub mod DefinedEqualities
pub mod EqualTrees
pub mod Equalities
