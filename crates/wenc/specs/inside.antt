-- What only private functions and proofs need, and those public calls that make up the program:
-- `translate`, `report`, `read_all` and `list_text`.
pub mod Steps
pub mod ListSteps
pub mod Lines
pub mod Full
