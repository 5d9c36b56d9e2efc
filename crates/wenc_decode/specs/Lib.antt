pub mod Copies
pub mod laws
pub mod Prelude
