pub mod Cursor
pub mod Items
pub mod Listing
pub mod DebugNames
pub mod Producers
pub mod inside
pub mod laws
pub mod Prelude
