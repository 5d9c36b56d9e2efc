-- Readers, one for each form, which find a value at the beginning of bytes. Contracts of functions
-- that read cite them.
pub mod Items
pub mod Names
pub mod Pairs
