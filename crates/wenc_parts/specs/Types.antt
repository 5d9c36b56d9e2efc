-- Value types (component model, binary format, "Type Definitions").
use Rattle.std.specs.Prelude.{ℕ, Option, Some, None}
use Rattle.wenc_base.specs.Piece.{Form, byte, ◌▸◌}
use Rattle.wenc_base.specs.Number.{index}
use Rattle.wenc_parts.specs.declared.types.PrimitiveValType.{PrimitiveValType}
use Rattle.wenc_parts.specs.declared.types.PrimitiveValType.TheVariants.{Bool, S8, U8, S16, U16}
use Rattle.wenc_parts.specs.declared.types.PrimitiveValType.TheVariants.{S32, U32, S64, U64, F32}
use Rattle.wenc_parts.specs.declared.types.PrimitiveValType.TheVariants.{F64, Char, String}
use Rattle.wenc_parts.specs.declared.types.PrimitiveValType.TheVariants.{ErrorContext}
use Rattle.wenc_parts.specs.declared.types.ComponentValType.{ComponentValType}
use Rattle.wenc_parts.specs.declared.types.ComponentValType.TheVariants.{Primitive}
use Rattle.wenc_parts.specs.declared.types.ComponentValType.TheVariants.{«Type» as TypeIndex}

-- the byte of each primitive type
abbrev pub primitive_byte : PrimitiveValType → ℕ
primitive_byte Bool = 0x7f
primitive_byte S8 = 0x7e
primitive_byte U8 = 0x7d
primitive_byte S16 = 0x7c
primitive_byte U16 = 0x7b
primitive_byte S32 = 0x7a
primitive_byte U32 = 0x79
primitive_byte S64 = 0x78
primitive_byte U64 = 0x77
primitive_byte F32 = 0x76
primitive_byte F64 = 0x75
primitive_byte Char = 0x74
primitive_byte String = 0x73
primitive_byte ErrorContext = 0x64

abbrev pub primitive : Form PrimitiveValType
primitive p = byte (primitive_byte p)

-- a primitive type, or the index of a defined one as a signed number
abbrev pub value_type : Form ComponentValType
value_type (Primitive p) = primitive p
value_type (TypeIndex n) = index n

-- the type of the value that a function returns, or that there is none
abbrev pub result_list : Form (Option ComponentValType)
result_list (Some t) = 0x00 ▸ value_type t
result_list None = 0x01 ▸ byte 0x00
