-- Value types of core modules (WebAssembly 3.0, binary format, "Heap Types", "Reference Types" and
-- "Value Types").
use Rattle.std.specs.Prelude.{ℕ, Bool, true, false, nat_eq, if◌then◌else◌}
use Rattle.wenc_base.specs.Encode.{Serves}
use Rattle.wenc_base.specs.Piece.{Form, byte, ◌▸◌, or_widely}
use Rattle.wenc_base.specs.Number.{index}
use Rattle.wenc_base.specs.declared.types.ValType.{ValType}
use Rattle.wenc_base.specs.declared.types.ValType.TheVariants.{I32, I64, F32, F64, V128, Ref}
use Rattle.wenc_base.specs.declared.types.RefType.{RefType}
use Rattle.wenc_base.specs.declared.types.HeapType.{HeapType}
use Rattle.wenc_base.specs.declared.types.HeapType.TheVariants.{Abstract, Concrete}
use Rattle.wenc_base.specs.declared.types.AbstractHeapType.{AbstractHeapType}
use Rattle.wenc_base.specs.declared.types.AbstractHeapType.TheVariants.{Func, Extern, Any, None}
use Rattle.wenc_base.specs.declared.types.AbstractHeapType.TheVariants.{NoExtern, NoFunc, Eq}
use Rattle.wenc_base.specs.declared.types.AbstractHeapType.TheVariants.{Struct, Array, I31, Exn}
use Rattle.wenc_base.specs.declared.types.AbstractHeapType.TheVariants.{NoExn}

-- the byte of each abstract heap type
abbrev pub abstract_byte : AbstractHeapType → ℕ
abstract_byte NoExn = 0x74
abstract_byte NoFunc = 0x73
abstract_byte NoExtern = 0x72
abstract_byte None = 0x71
abstract_byte Func = 0x70
abstract_byte Extern = 0x6f
abstract_byte Any = 0x6e
abstract_byte Eq = 0x6d
abstract_byte I31 = 0x6c
abstract_byte Struct = 0x6b
abstract_byte Array = 0x6a
abstract_byte Exn = 0x69

abbrev pub abstract_type : Form AbstractHeapType
abstract_type t = byte (abstract_byte t)

-- an abstract type, or the index of a type as a signed number
abbrev pub heap_type : Form HeapType
heap_type (Abstract t) = abstract_type t
heap_type (Concrete n) = index n

-- A nullable reference to func or extern is written as that byte alone, and one to another heap
-- type after a byte. Widely either spelling is read of each abstract type.
abbrev pub nullable : Form HeapType
nullable (Abstract Func) = or_widely (abstract_type Func) (0x63 ▸ abstract_type Func)
nullable (Abstract Extern) = or_widely (abstract_type Extern) (0x63 ▸ abstract_type Extern)
nullable (Abstract t) = or_widely (0x63 ▸ abstract_type t) (abstract_type t)
nullable (Concrete n) = 0x63 ▸ index n

-- a reference to this heap type, which may be null or not
abbrev pub reference_to : Bool → Form HeapType
reference_to true h = nullable h
reference_to false h = 0x64 ▸ heap_type h

abbrev pub reference : Form RefType
reference r = reference_to r.nullable r.heap_type

-- a number, a vector or a reference
abbrev pub val_type : Form ValType
val_type I32 = byte 0x7f
val_type I64 = byte 0x7e
val_type F32 = byte 0x7d
val_type F64 = byte 0x7c
val_type V128 = byte 0x7b
val_type (Ref r) = reference r

-- the type with this encoding of one byte
abbrev pub of_byte : ℕ → ValType
of_byte b =
    if nat_eq b 0x7f then I32 else if nat_eq b 0x7e then I64 else if nat_eq b 0x7d then F32
    else if nat_eq b 0x7c then F64 else if nat_eq b 0x7b then V128
    else Ref (record {
      nullable = true;
      heap_type = Abstract (if nat_eq b 0x70 then Func else Extern);
    })

abbrev pub is_byte_reference : Bool → HeapType → Bool
is_byte_reference true (Abstract Func) = true
is_byte_reference true (Abstract Extern) = true
is_byte_reference _ other = false

-- The encoding is one byte.
abbrev pub is_byte_type : ValType → Bool
is_byte_type (Ref r) = is_byte_reference r.nullable r.heap_type
is_byte_type other = true

-- This byte encodes a type.
abbrev pub IsByteType : ℕ → Type 0
IsByteType b = Serves (byte b) (val_type (of_byte b))
