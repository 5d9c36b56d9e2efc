-- What only private functions and proofs need: no contract of a public call reaches it.
pub mod SectionBodies
pub mod Layout
pub mod Spaces
pub mod HoldsSome
pub mod View
pub mod Adds
