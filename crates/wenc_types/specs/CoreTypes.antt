-- Core types in components (component model, binary format, "Core Definitions").
use Rattle.std.specs.Prelude.{ℕ, List, true}
use Rattle.wenc_base.specs.Piece.{Form, ◌▸◌, ◌⨾◌}
use Rattle.wenc_base.specs.Number.{u32}
use Rattle.wenc_base.specs.Forms.{list, name as name_form}
use Rattle.wenc_base.specs.Composites.{RecType, rec_type, standing}
use Rattle.wenc_base.specs.Entities.{entity_type}
use Rattle.wenc_base.specs.declared.imports.EntityType.{EntityType}

-- what a module type declares
pub data ModuleDeclaration : Type 0 where
  ModuleImport : (from : List ℕ) (name : List ℕ) (ty : EntityType) → ModuleDeclaration
  ModuleRecType : (ty : RecType) → ModuleDeclaration
  -- a core type of the scope that is this many scopes out
  ModuleOuter : (count : ℕ) (number : ℕ) → ModuleDeclaration
  ModuleExport : (name : List ℕ) (ty : EntityType) → ModuleDeclaration

abbrev pub module_declaration : Form ModuleDeclaration
module_declaration (ModuleImport from name ty) =
    0x00 ▸ (name_form from ⨾ name_form name ⨾ entity_type ty)
module_declaration (ModuleRecType g) = 0x01 ▸ rec_type g
module_declaration (ModuleOuter count number) = 0x02 ▸ 0x10 ▸ 0x01 ▸ (u32 count ⨾ u32 number)
module_declaration (ModuleExport name ty) = 0x03 ▸ (name_form name ⨾ entity_type ty)

abbrev pub module_type : Form (List ModuleDeclaration)
module_type ds = 0x50 ▸ list module_declaration ds

-- types of the core, or the type of a module
pub data CoreType : Type 0 where
  Grouped : (ty : RecType) → CoreType
  Module : (declarations : List ModuleDeclaration) → CoreType

abbrev pub core_type : Form CoreType
core_type (Grouped g) = standing true g
core_type (Module ds) = module_type ds
