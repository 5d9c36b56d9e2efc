-- Readers, one for each form, which find a value at the beginning of bytes. Contracts of functions
-- that read cite them.
pub mod SectionIds
pub mod Types
pub mod Exports
pub mod Imports
pub mod Instances
pub mod Aliases
