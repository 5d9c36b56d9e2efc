-- Exports (component model, binary format, "Import and Export Definitions").
use Rattle.std.specs.Prelude.{ℕ, Option}
use Rattle.wenc_base.specs.Piece.{Form, ◌⨾◌}
use Rattle.wenc_base.specs.Number.{u32}
use Rattle.wenc_base.specs.Forms.{option}
use Rattle.wenc_parts.specs.declared.exports.ComponentExportKind.{ComponentExportKind}
use Rattle.wenc_parts.specs.declared.imports.ComponentTypeRef.{ComponentTypeRef}
use Rattle.wenc_parts.specs.Exports.{component_export_kind}
use Rattle.wenc_parts.specs.Imports.{ExternName, extern_name, type_reference}

-- what is exported under a name: its kind and index, and a type that is ascribed or none
pub record Export : Type 0 where
  pub name : ExternName
  pub kind : ComponentExportKind
  pub index : ℕ
  pub ty : Option ComponentTypeRef

abbrev pub export_item : Form Export
export_item e =
    extern_name e.name ⨾ component_export_kind e.kind ⨾ u32 e.index ⨾ option type_reference e.ty
