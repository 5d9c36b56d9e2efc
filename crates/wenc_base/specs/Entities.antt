-- Types of the imports and exports of modules (WebAssembly 3.0, binary format, "Limits", "Table
-- Types", "Memory Types", "Global Types", "Tag Types" and "External Types").
use Rattle.std.specs.Prelude.{ℕ, ◌+◌, Bool, true, false, if◌then◌else◌}
use Rattle.std.specs.Prelude.{Option, Some, None}
use Rattle.wenc_base.specs.Piece.{Piece, Form, ◌▸◌, ◌⨾◌}
use Rattle.wenc_base.specs.Number.{u32, u64}
use Rattle.wenc_base.specs.Forms.{flag}
use Rattle.wenc_base.specs.Types.{reference, val_type}
use Rattle.wenc_base.specs.declared.tables.TableType.{TableType}
use Rattle.wenc_base.specs.declared.memories.MemoryType.{MemoryType}
use Rattle.wenc_base.specs.declared.globals.GlobalType.{GlobalType}
use Rattle.wenc_base.specs.declared.tags.TagType.{TagType}
use Rattle.wenc_base.specs.declared.imports.EntityType.{EntityType}
use Rattle.wenc_base.specs.declared.imports.EntityType.TheVariants.{Function, Table, Memory, Global}
use Rattle.wenc_base.specs.declared.imports.EntityType.TheVariants.{Tag}

-- whether there is a maximum, whether it is shared, and whether it is of 64 bits
abbrev pub limit_flags : Bool → Bool → Bool → ℕ
limit_flags is_bounded is_shared is_long =
    (if is_bounded then 1 else 0) + ((if is_shared then 2 else 0) + (if is_long then 4 else 0))

-- a byte of flags, the minimum, and the maximum if there is one
abbrev pub limits : Bool → Bool → ℕ → Option ℕ → Piece
limits is_shared is_long minimum None = limit_flags false is_shared is_long ▸ u64 minimum
limits is_shared is_long minimum (Some maximum) =
    limit_flags true is_shared is_long ▸ (u64 minimum ⨾ u64 maximum)

-- a table is never shared
abbrev pub table_type : Form TableType
table_type t = reference t.element_type ⨾ limits false t.table64 t.minimum t.maximum

abbrev pub memory_type : Form MemoryType
memory_type m = limits m.shared m.memory64 m.minimum m.maximum

abbrev pub global_type : Form GlobalType
global_type g = val_type g.val_type ⨾ flag g.mutable

-- the byte 00, and the index of a function type
abbrev pub tag_type : Form TagType
tag_type t = 0x00 ▸ u32 t.func_type_idx

-- a byte that says which of these it is, then its type
abbrev pub entity_type : Form EntityType
entity_type (Function n) = 0x00 ▸ u32 n
entity_type (Table t) = 0x01 ▸ table_type t
entity_type (Memory m) = 0x02 ▸ memory_type m
entity_type (Global g) = 0x03 ▸ global_type g
entity_type (Tag t) = 0x04 ▸ tag_type t
