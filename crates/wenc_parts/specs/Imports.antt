-- The types and the names of imports and exports (component model, binary format, "Import and
-- Export Definitions").
use Rattle.std.specs.Prelude.{ℕ, List, [], ◌∷◌, ◌++◌, Option, Some, None, Box}
use Rattle.wenc_base.specs.Piece.{Piece, Form, byte, ◌▸◌, ◌⨾◌, or_widely}
use Rattle.wenc_base.specs.Number.{u32}
use Rattle.wenc_base.specs.Forms.{name, list}
use Rattle.wenc_parts.specs.Types.{value_type}
use Rattle.std.specs.Option.{option_map}
use Rattle.std.specs.String.{string_bytes}
use Rattle.std.specs.Cow.{cow_str_bytes}
use Rattle.wenc_parts.specs.declared.exports.ComponentExportKind.{ComponentExportKind}
use Rattle.wenc_parts.specs.declared.exports.ComponentExportKind.TheVariants as kinds
use Rattle.wenc_parts.specs.declared.imports.ComponentExternName.{ComponentExternName}
use Rattle.wenc_parts.specs.declared.imports.NameOptions.{NameOptions}
use Rattle.wenc_parts.specs.declared.imports.NameTree.{NameTree}
use Rattle.wenc_parts.specs.declared.imports.TypeBounds.{TypeBounds}
use Rattle.wenc_parts.specs.declared.imports.TypeBounds.TheVariants.{Eq, SubResource}
use Rattle.wenc_parts.specs.declared.imports.ComponentTypeRef.{ComponentTypeRef}
use Rattle.wenc_parts.specs.declared.imports.ComponentTypeRef.TheVariants.{Module, Func, Value}
use Rattle.wenc_parts.specs.declared.imports.ComponentTypeRef.TheVariants.{«Type» as TypeRef}
use Rattle.wenc_parts.specs.declared.imports.ComponentTypeRef.TheVariants.{Instance, Component}

-- the type with this index, or a fresh resource type
abbrev pub type_bounds : Form TypeBounds
type_bounds (Eq n) = 0x00 ▸ u32 n
type_bounds SubResource = byte 0x01

-- the type of what is imported or exported
abbrev pub type_reference : Form ComponentTypeRef
type_reference (Module n) = 0x00 ▸ 0x11 ▸ u32 n
type_reference (Func n) = 0x01 ▸ u32 n
type_reference (Value t) = 0x02 ▸ value_type t
type_reference (TypeRef b) = 0x03 ▸ type_bounds b
type_reference (Instance n) = 0x05 ▸ u32 n
type_reference (Component n) = 0x04 ▸ u32 n

-- the kind of what has such a type
abbrev pub kind_of : ComponentTypeRef → ComponentExportKind
kind_of (Module n) = kinds.Module
kind_of (Func n) = kinds.Func
kind_of (Value t) = kinds.Value
kind_of (TypeRef b) = kinds.«Type»
kind_of (Instance n) = kinds.Instance
kind_of (Component n) = kinds.Component

-- the name of an import or an export, and its options
pub record ExternName : Type 0 where
  pub name : List ℕ
  pub implements : Option (List ℕ)
  pub version_suffix : Option (List ℕ)
  pub external_id : Option (List ℕ)

-- a name without options
abbrev pub plain_name : List ℕ → ExternName
plain_name name =
    record { name = name; implements = None; version_suffix = None; external_id = None }

-- an option of a name, with its text
pub data NameOption : Type 0 where
  Implements VersionSuffix ExternalId : (text : List ℕ) → NameOption

abbrev pub name_option : Form NameOption
name_option (Implements text) = 0x00 ▸ name text
name_option (VersionSuffix text) = 0x01 ▸ name text
name_option (ExternalId text) = 0x02 ▸ name text

-- this option, if it has a text
abbrev pub present : (List ℕ → NameOption) → Option (List ℕ) → List NameOption
present make None = []
present make (Some text) = make text ∷ []

-- the options of a name, in ascending order of their first bytes
abbrev pub name_options : ExternName → List NameOption
name_options n =
    present Implements n.implements ++
    (present VersionSuffix n.version_suffix ++ present ExternalId n.external_id)

-- 01 is an older spelling of 00
abbrev pub name_with : List ℕ → List NameOption → Piece
name_with text [] = or_widely (0x00 ▸ name text) (0x01 ▸ name text)
name_with text (option ∷ options) = 0x02 ▸ name text ⨾ list name_option (option ∷ options)

abbrev pub extern_name : Form ExternName
extern_name n = name_with n.name (name_options n)

-- ---- the code's names as pure ones

abbrev pub extern_name_view : {A : Type 0} → ComponentExternName A → ExternName
extern_name_view n = record {
  name = cow_str_bytes n.name;
  implements = option_map cow_str_bytes n.implements;
  version_suffix = option_map cow_str_bytes n.version_suffix;
  external_id = option_map cow_str_bytes n.external_id;
}

-- a name with these options
abbrev pub options_view : {A : Type 0} → List ℕ → NameOptions A → ExternName
options_view name options = record {
  name = name;
  implements = option_map string_bytes options.implements;
  version_suffix = option_map string_bytes options.version_suffix;
  external_id = option_map string_bytes options.external_id;
}

-- a name with the options that are in a box, or without any
abbrev pub boxed_view : {A : Type 0} → List ℕ → Option (Box (NameOptions A) A) → ExternName
boxed_view name None = plain_name name
boxed_view name (Some options) = options_view name options.value

abbrev pub name_tree_view : {A : Type 0} → NameTree A → ExternName
name_tree_view n = boxed_view (string_bytes n.name) n.options
