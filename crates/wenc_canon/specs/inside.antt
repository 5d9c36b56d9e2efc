-- What only private functions and proofs need, and those public calls by which section and builder
-- add a row: `AddsRow` and `AddsSlotRow`.
pub mod Rows
