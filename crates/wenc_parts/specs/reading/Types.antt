-- Readers of value types.
use Rattle.std.specs.Prelude.{ℕ, List, [], ◌∷◌, Option, Some, None}
use Rattle.wenc_base.specs.Readers.{Reader, ◌>>=◌, give, nowhere, choose}
use Rattle.wenc_base.specs.reading.Numbers.{read_index}
use Rattle.wenc_parts.specs.declared.types.PrimitiveValType.{PrimitiveValType}
use Rattle.wenc_parts.specs.declared.types.PrimitiveValType.TheVariants.{Bool, S8, U8, S16, U16}
use Rattle.wenc_parts.specs.declared.types.PrimitiveValType.TheVariants.{S32, U32, S64, U64, F32}
use Rattle.wenc_parts.specs.declared.types.PrimitiveValType.TheVariants.{F64, Char, String}
use Rattle.wenc_parts.specs.declared.types.PrimitiveValType.TheVariants.{ErrorContext}
use Rattle.wenc_parts.specs.declared.types.ComponentValType.{ComponentValType}
use Rattle.wenc_parts.specs.declared.types.ComponentValType.TheVariants.{Primitive, «Type» as TypeIndex}

abbrev pub primitive_rows : {A : Type 0} → (PrimitiveValType → A) → List (ℕ × Reader A)
primitive_rows make =
    (0x7f, give (make Bool)) ∷
    (0x7e, give (make S8)) ∷
    (0x7d, give (make U8)) ∷
    (0x7c, give (make S16)) ∷
    (0x7b, give (make U16)) ∷
    (0x7a, give (make S32)) ∷
    (0x79, give (make U32)) ∷
    (0x78, give (make S64)) ∷
    (0x77, give (make U64)) ∷
    (0x76, give (make F32)) ∷
    (0x75, give (make F64)) ∷
    (0x74, give (make Char)) ∷
    (0x73, give (make String)) ∷
    (0x64, give (make ErrorContext)) ∷ []

abbrev pub read_primitive : Reader PrimitiveValType
read_primitive = choose (primitive_rows (λ p. p)) nowhere

abbrev pub read_value_type : Reader ComponentValType
read_value_type = choose (primitive_rows Primitive) (read_index >>= λ n. give (TypeIndex n))

abbrev pub read_result_list : Reader (Option ComponentValType)
read_result_list =
    choose ((0x00, read_value_type >>= λ t. give (Some t)) ∷
    (0x01, choose ((0x00, give None) ∷ []) nowhere) ∷ []) nowhere
