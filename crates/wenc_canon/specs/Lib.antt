pub mod Canonicals
pub mod inside
pub mod reading
pub mod laws
pub mod Prelude
