-- What stands after the first byte of a core type.
use Rattle.std.specs.Prelude.{Bool}
use Rattle.wenc_base.specs.declared.types.RefType.{RefType}
use Rattle.wenc_base.specs.Composites.{Single}
use Rattle.wenc_base.specs.Readers.{Reader, ◌>>=◌, give}
use Rattle.wenc_base.specs.reading.Types.{read_heap_type, to}
use Rattle.wenc_types.specs.CoreTypes.{CoreType, Grouped}
use Rattle.wenc_types.specs.reading.CoreTypes.{read_open}

-- a reference to the heap type that follows
abbrev pub read_referred : Bool → Reader RefType
read_referred nullable = read_heap_type >>= λ h. give (to nullable h)

-- a type that can be extended, after its guard
abbrev pub read_guarded : Reader CoreType
read_guarded = read_open (λ s. Grouped (Single s))
