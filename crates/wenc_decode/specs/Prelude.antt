-- The names that clauses cite, re-exported from the files that define them.
pub use Rattle.wenc_decode.specs.Copies.{AreCopies, OptionCopies}
pub use Rattle.wenc_decode.specs.laws.Copies.{copies_are}
