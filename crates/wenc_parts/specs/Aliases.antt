-- Aliases (component model, binary format, "Alias Definitions").
use Rattle.std.specs.Prelude.{ℕ, List}
use Rattle.wenc_base.specs.Piece.{Form, byte, ◌▸◌, ◌⨾◌}
use Rattle.wenc_base.specs.Number.{u32}
use Rattle.wenc_base.specs.Forms.{name as name_form}
use Rattle.std.specs.String.{string_bytes}
use Rattle.wenc_base.specs.declared.exports.ExportKind.{ExportKind}
use Rattle.wenc_base.specs.Exports.{core_export_kind as core_kind}
use Rattle.wenc_parts.specs.declared.exports.ComponentExportKind.{ComponentExportKind}
use Rattle.wenc_parts.specs.Exports.{component_export_kind}
use Rattle.wenc_parts.specs.declared.aliases.ComponentOuterAliasKind.{ComponentOuterAliasKind}
use Rattle.wenc_parts.specs.declared.aliases.ComponentOuterAliasKind.TheVariants.{CoreModule}
use Rattle.wenc_parts.specs.declared.aliases.ComponentOuterAliasKind.TheVariants.{CoreType}
use Rattle.wenc_parts.specs.declared.aliases.ComponentOuterAliasKind.TheVariants.{«Type» as OuterType}
use Rattle.wenc_parts.specs.declared.aliases.ComponentOuterAliasKind.TheVariants.{Component}
use Rattle.wenc_parts.specs.declared.aliases.Alias.{Alias}
use Rattle.wenc_parts.specs.declared.aliases.Alias.TheVariants as alias_variants
use Rattle.wenc_parts.specs.declared.aliases.AliasTree.{AliasTree}
use Rattle.wenc_parts.specs.declared.aliases.AliasTree.TheVariants as tree_variants

-- the kinds of items that an alias can have from an enclosing component
abbrev pub outer_kind : Form ComponentOuterAliasKind
outer_kind CoreModule = 0x00 ▸ byte 0x11
outer_kind CoreType = 0x00 ▸ byte 0x10
outer_kind OuterType = byte 0x03
outer_kind Component = byte 0x04

-- what an alias refers to
pub data AliasOf : Type 0 where
  -- the export of this name of a component instance
  InstanceExport : (instance : ℕ) (kind : ComponentExportKind) (name : List ℕ) → AliasOf
  -- the export of this name of a core instance
  CoreInstanceExport : (instance : ℕ) (kind : ExportKind) (name : List ℕ) → AliasOf
  -- an item of an enclosing component, this many scopes out
  Outer : (kind : ComponentOuterAliasKind) (count : ℕ) (number : ℕ) → AliasOf

-- its kind, then a byte that says where the item is, then what finds it there
abbrev pub alias : Form AliasOf
alias (InstanceExport instance kind name) =
    component_export_kind kind ⨾ 0x00 ▸ u32 instance ⨾ name_form name
alias (CoreInstanceExport instance kind name) =
    0x00 ▸ core_kind kind ⨾ 0x01 ▸ u32 instance ⨾ name_form name
alias (Outer kind count number) = outer_kind kind ⨾ 0x02 ▸ u32 count ⨾ u32 number

-- ---- the code's aliases as pure ones

abbrev pub alias_view : Alias → AliasOf
alias_view (alias_variants.InstanceExport instance kind name) =
    InstanceExport instance kind name.now
alias_view (alias_variants.CoreInstanceExport instance kind name) =
    CoreInstanceExport instance kind name.now
alias_view (alias_variants.Outer kind count index) = Outer kind count index

abbrev pub alias_tree_view : {A : Type 0} → AliasTree A → AliasOf
alias_tree_view (tree_variants.InstanceExport instance kind name) =
    InstanceExport instance kind (string_bytes name)
alias_tree_view (tree_variants.CoreInstanceExport instance kind name) =
    CoreInstanceExport instance kind (string_bytes name)
alias_tree_view (tree_variants.Outer kind count index) = Outer kind count index
