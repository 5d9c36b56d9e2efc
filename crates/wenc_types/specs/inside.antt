-- What only private functions and proofs need, and the public call `Counts::counted`.
pub mod TypeState
