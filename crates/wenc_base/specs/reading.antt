-- Readers, one for each form, which find a value at the beginning of bytes. Contracts of functions
-- that read cite them.
pub mod Numbers
pub mod Forms
pub mod Exports
pub mod Types
pub mod Composites
pub mod Entities
