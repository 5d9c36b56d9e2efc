pub mod Served
pub mod Appended
