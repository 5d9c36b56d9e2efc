-- Instances of core modules and of components (component model, binary format, "Instance
-- Definitions").
use Rattle.std.specs.Prelude.{ℕ, List}
use Rattle.wenc_base.specs.Piece.{Form, ◌▸◌, ◌⨾◌}
use Rattle.wenc_base.specs.Number.{u32}
use Rattle.wenc_base.specs.Delimited.{pair}
use Rattle.wenc_base.specs.Forms.{name, list}
use Rattle.wenc_sections.specs.Pairs.{triple}
use Rattle.wenc_base.specs.Exports.{core_export_kind as core_kind}
use Rattle.wenc_base.specs.declared.exports.ExportKind.{ExportKind}
use Rattle.wenc_parts.specs.declared.exports.ComponentExportKind.{ComponentExportKind}
use Rattle.wenc_parts.specs.declared.instances.ModuleArg.{ModuleArg}
use Rattle.wenc_parts.specs.Exports.{component_export_kind}
use Rattle.wenc_parts.specs.Imports.{ExternName, extern_name}
use Rattle.wenc_parts.specs.Instances.{module_argument}

-- ---- of core modules

-- a module with its arguments, each under a name, or exports alone: names, kinds and indices
pub data CoreInstance : Type 0 where
  CoreInstantiate : (module_index : ℕ) (arguments : List (List ℕ × ModuleArg)) → CoreInstance
  CoreExports : (exports : List (List ℕ × ExportKind × ℕ)) → CoreInstance

abbrev pub core_instance : Form CoreInstance
core_instance (CoreInstantiate module_index arguments) =
    0x00 ▸ u32 module_index ⨾ list (pair name module_argument) arguments
core_instance (CoreExports exports) = 0x01 ▸ list (triple name core_kind u32) exports

-- ---- of components

-- a component with its arguments, or exports alone: names, kinds and indices
pub data Instance : Type 0 where
  Instantiate : (component_index : ℕ) (arguments : List (List ℕ × ComponentExportKind × ℕ))
      → Instance
  Exports : (exports : List (ExternName × ComponentExportKind × ℕ)) → Instance

abbrev pub instance : Form Instance
instance (Instantiate component_index arguments) =
    0x00 ▸ u32 component_index ⨾ list (triple name component_export_kind u32) arguments
instance (Exports exports) = 0x01 ▸ list (triple extern_name component_export_kind u32) exports

-- ---- the values of iterators and of the code's trees, by what their names are seen as

abbrev pub named_pair : {N S A : Type 0} → (N → S) → N × A → S × A
named_pair seen p = (seen p.0, p.1)

abbrev pub named_triple : {N S A B : Type 0} → (N → S) → N × A × B → S × A × B
named_triple seen t = (seen t.0, t.1, t.2)
