pub mod Gives
pub mod Expected
pub mod Refusals
pub mod Exact
pub mod laws
pub mod Prelude
