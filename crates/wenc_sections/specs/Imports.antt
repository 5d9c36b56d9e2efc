-- Imports (component model, binary format, "Import and Export Definitions").
use Rattle.wenc_base.specs.Piece.{Form, ◌⨾◌}
use Rattle.wenc_parts.specs.declared.imports.ComponentTypeRef.{ComponentTypeRef}
use Rattle.wenc_parts.specs.Imports.{ExternName, extern_name, type_reference}

-- what is imported under a name
pub record Import : Type 0 where
  pub name : ExternName
  pub ty : ComponentTypeRef

abbrev pub import_item : Form Import
import_item i = extern_name i.name ⨾ type_reference i.ty
