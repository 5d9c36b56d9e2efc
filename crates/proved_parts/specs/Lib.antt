pub mod Own
pub mod Prelude
