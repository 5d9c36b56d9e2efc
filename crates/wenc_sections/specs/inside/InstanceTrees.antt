-- The exports of trees, as they are written.
use Rattle.std.specs.Prelude.{ℕ}
use Rattle.wenc_sections.specs.Pairs.{triple}
use Rattle.wenc_base.specs.Number.{u32}
use Rattle.wenc_base.specs.Piece.{Form}
use Rattle.wenc_parts.specs.Exports.{component_export_kind}
use Rattle.wenc_parts.specs.Imports.{extern_name, name_tree_view}
use Rattle.wenc_parts.specs.declared.exports.ComponentExportKind.{ComponentExportKind}
use Rattle.wenc_parts.specs.declared.imports.NameTree.{NameTree}

abbrev pub inline_export_tree : {A : Type 0} → Form (NameTree A × ComponentExportKind × ℕ)
inline_export_tree e =
    triple (λ name. extern_name (name_tree_view name)) component_export_kind u32 e
