pub mod Functions
pub mod NeverUnfinished
pub mod IndexedRuns
mod Anew
