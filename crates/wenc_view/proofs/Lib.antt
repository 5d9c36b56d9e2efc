pub mod Nested
pub mod Options
pub mod Texts
pub mod Rows
pub mod SubTypes
pub mod Tables
pub mod ValTypes
