pub mod Groups
pub mod Members
pub mod Runs
pub mod Added
pub mod Ended
pub mod Grown
pub mod Kept
pub mod Produced
mod Composites
pub mod ShortNames
pub mod Bytes
pub mod OneByte
