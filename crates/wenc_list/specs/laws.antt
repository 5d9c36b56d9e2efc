-- Why the readers of names and of producers find what is read and nothing else.
pub mod DebugNames
pub mod Producers
