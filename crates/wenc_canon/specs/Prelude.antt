-- The names that clauses cite, re-exported from the files that define them.
pub use Rattle.wenc_canon.specs.Canonicals.{Adds, AddsWithOptions, Builtin, Canonical, CoreType}
pub use Rattle.wenc_canon.specs.Canonicals.{Field, Flag, Index, Lift, Lower, OfBuiltin}
pub use Rattle.wenc_canon.specs.Canonicals.{ResourceDrop, Results, Values, Zero, builtin_name}
pub use Rattle.wenc_canon.specs.Canonicals.{builtins, canonical, canonical_option, fields, row}
pub use Rattle.wenc_canon.specs.Canonicals.{◌is◌takes◌}
pub use Rattle.wenc_canon.specs.inside.Rows.{HasName, and_options, as_values, builtin_by}
pub use Rattle.wenc_canon.specs.inside.Rows.{builtin_with, row_first_byte, row_then, row_with}
pub use Rattle.wenc_canon.specs.inside.Rows.{values_then}
pub use Rattle.wenc_canon.specs.reading.Canonicals.{read_canonical, read_canonical_option}
pub use Rattle.wenc_canon.specs.reading.Canonicals.{read_lifted, read_lowered, rows}
pub use Rattle.wenc_canon.specs.laws.Canonicals.{canonical_lawful, canonical_option_lawful}
pub use Rattle.wenc_canon.specs.laws.Canonicals.{canonical_option_sound, canonical_sound}
pub use Rattle.wenc_canon.specs.laws.Rows.{builtin_serves, builtin_with_serves, lift_serves}
pub use Rattle.wenc_canon.specs.laws.Rows.{lower_serves, two_fields}
pub use Rattle.wenc_canon.specs.declared.canonicals.CanonicalOption.{CanonicalOption}
pub use Rattle.wenc_base.specs.declared.fault.Fault.{Fault}
