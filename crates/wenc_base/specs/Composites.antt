-- Types that core modules define (WebAssembly 3.0, binary format, "Composite Types" and "Recursive
-- Types").
use Rattle.std.specs.Prelude.{ℕ, Bool, true, false, List, map, Option, Some, None}
use Rattle.wenc_base.specs.Piece.{Piece, Form, byte, ◌▸◌, ◌⨾◌}
use Rattle.wenc_base.specs.Number.{u32}
use Rattle.wenc_base.specs.Forms.{flag, list, option}
use Rattle.wenc_base.specs.Types.{val_type}
use Rattle.wenc_base.specs.declared.types.ValType.{ValType}
use Rattle.wenc_base.specs.declared.types.storage.StorageType.{StorageType}
use Rattle.wenc_base.specs.declared.types.storage.StorageType.TheVariants.{I8, I16, Val}
use Rattle.wenc_base.specs.declared.types.storage.FieldType.{FieldType}
use Rattle.wenc_base.specs.declared.types.composite.FuncType.{FuncType}
use Rattle.wenc_base.specs.declared.types.composite.ArrayType.{ArrayType}
use Rattle.wenc_base.specs.declared.types.composite.StructType.{StructType}
use Rattle.wenc_base.specs.declared.types.composite.CompositeType.{CompositeType}
use Rattle.wenc_base.specs.declared.types.composite.CompositeType.TheVariants as composites
use Rattle.wenc_base.specs.declared.types.sub.SubType.{SubType}
use Rattle.wenc_base.specs.declared.types.groups.GroupTree.{GroupTree}
use Rattle.wenc_base.specs.declared.types.groups.GroupTree.TheVariants as groups

-- what a field holds: a small number, or a value of a value type
abbrev pub storage_type : Form StorageType
storage_type I8 = byte 0x78
storage_type I16 = byte 0x77
storage_type (Val t) = val_type t

-- what it holds, and whether that can be changed
abbrev pub field_type : Form FieldType
field_type f = storage_type f.element_type ⨾ flag f.mutable

-- a function, an array or a structure
pub data Composite : Type 0 where
  Func : (params results : List ValType) → Composite
  Array : (element : FieldType) → Composite
  Struct : (fields : List FieldType) → Composite

abbrev pub composite_type : Form Composite
composite_type (Func params results) = 0x60 ▸ (list val_type params ⨾ list val_type results)
composite_type (Array element) = 0x5e ▸ field_type element
composite_type (Struct fields) = 0x5f ▸ list field_type fields

-- a composite type, what it extends, and whether it can be extended
pub record Sub : Type 0 where
  pub is_final : Bool
  pub supertype : Option ℕ
  pub composite : Composite

-- Only a final type without supertype has the short spelling.
abbrev pub sub_type_of : Bool → Option ℕ → Form Composite
sub_type_of true None c = composite_type c
sub_type_of true (Some n) c = 0x4f ▸ (option u32 (Some n) ⨾ composite_type c)
sub_type_of false supertype c = 0x50 ▸ (option u32 supertype ⨾ composite_type c)

abbrev pub sub_type : Form Sub
sub_type s = sub_type_of s.is_final s.supertype s.composite

-- a final type without supertype
abbrev pub final : Composite → Sub
final c = record { is_final = true; supertype = None; composite = c }

-- a type alone, or types that refer to each other
pub data RecType : Type 0 where
  Single : (ty : Sub) → RecType
  Rec : (types : List Sub) → RecType

abbrev pub rec_type : Form RecType
rec_type (Single s) = sub_type s
rec_type (Rec types) = 0x4e ▸ list sub_type types

-- ---- in a component

-- A byte comes before a type that others may extend, since it begins as a module type does.
abbrev pub guard_before : Bool → Piece → Piece
guard_before true p = p
guard_before false p = 0x00 ▸ p

-- with that byte before a type that is in no group, or without
abbrev pub standing : Bool → Form RecType
standing true (Single s) = guard_before s.is_final (sub_type s)
standing guard g = rec_type g

-- ---- the code's types as pure ones

abbrev pub params_of : {A : Type 0} → FuncType A → List ValType
params_of f = f.params.items

abbrev pub results_of : {A : Type 0} → FuncType A → List ValType
results_of f = f.results.items

abbrev pub composite_view : {A : Type 0} → CompositeType A → Composite
composite_view (composites.Func f) = Func f.params.items f.results.items
composite_view (composites.Array a) = Array a.0
composite_view (composites.Struct s) = Struct s.fields.items

abbrev pub func_type_view : {A : Type 0} → FuncType A → Composite
func_type_view f = composite_view (composites.Func f)

abbrev pub array_view : ArrayType → Composite
array_view a = Array a.0

abbrev pub structure_view : {A : Type 0} → StructType A → Composite
structure_view s = composite_view (composites.Struct s)

abbrev pub sub_view : {A : Type 0} → SubType A → Sub
sub_view s =
    record {
      is_final = s.is_final;
      supertype = s.supertype_idx;
      composite = composite_view s.composite_type;
    }

abbrev pub rec_type_view : {A : Type 0} → GroupTree A → RecType
rec_type_view (groups.Sub s) = Single (sub_view s)
rec_type_view (groups.Rec types) = Rec (map sub_view types.items)
