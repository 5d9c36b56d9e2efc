-- The primitive types, in the order of their table, and what stands after the first byte of a
-- type of values.
use Rattle.std.specs.Prelude.{ℕ, List, [], ◌∷◌, drop}
use Rattle.wenc_base.specs.Readers.{Reader, nowhere, pick}
use Rattle.wenc_parts.specs.declared.types.PrimitiveValType.{PrimitiveValType}
use Rattle.wenc_parts.specs.declared.types.PrimitiveValType.TheVariants.{Bool as BoolType, S8, U8}
use Rattle.wenc_parts.specs.declared.types.PrimitiveValType.TheVariants.{S16, U16, S32, U32, S64}
use Rattle.wenc_parts.specs.declared.types.PrimitiveValType.TheVariants.{U64, F32, F64, Char}
use Rattle.wenc_parts.specs.declared.types.PrimitiveValType.TheVariants.{String, ErrorContext}
use Rattle.wenc_types.specs.DefinedTypes.{DefValType}
use Rattle.wenc_types.specs.reading.DefinedTypes.{defined_rows}

abbrev pub primitive_types : List PrimitiveValType
primitive_types =
    BoolType ∷ S8 ∷ U8 ∷ S16 ∷ U16 ∷ S32 ∷ U32 ∷ S64 ∷ U64 ∷ F32 ∷ F64 ∷ Char ∷ String ∷
    ErrorContext ∷ []

-- a type of values that is no primitive one, after this byte
abbrev pub read_defined_row : ℕ → Reader DefValType
read_defined_row first = pick (defined_rows (λ t. t)) nowhere first

-- the table of first bytes from the row of handles on
abbrev pub handle_rows : List (ℕ × Reader DefValType)
handle_rows = drop 8 (defined_rows (λ t. t))
