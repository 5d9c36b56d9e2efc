-- The names that clauses cite, re-exported from the files that define them.
pub use Rattle.wenc_read.specs.Gives.{Gives, IsWithin, IsWithinNested, flaw_of, left_of}
pub use Rattle.wenc_read.specs.Expected.{ranges_of, BeginsWith}
pub use Rattle.wenc_read.specs.Refusals.{expected_at, expected_before, or_else, in_flat}
pub use Rattle.wenc_read.specs.Refusals.{unless_between, unless_few, byte_error, flag_error}
pub use Rattle.wenc_read.specs.Refusals.{number_error}
pub use Rattle.wenc_read.specs.Exact.{IsExact, IsExactAt, Reading}
pub use Rattle.wenc_read.specs.laws.Exact.{exact_by, read_by, reading_list, reading_option}
pub use Rattle.wenc_read.specs.laws.Begins.{OthersFail, begins, choose_fails, index_fails}
pub use Rattle.wenc_read.specs.laws.Begins.{nowhere_fails, then_fails}
pub use Rattle.wenc_read.specs.laws.Tables.{at_first, fails_on}
