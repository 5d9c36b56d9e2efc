pub mod Listed
pub mod Indices
pub mod SectionLaws
pub mod Taken
pub mod Stops
pub mod Faults
pub mod OwnBytes
pub mod Parts
