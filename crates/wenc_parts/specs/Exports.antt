-- The kinds of what is exported (component model, binary format, "Instance Definitions": sorts).
use Rattle.wenc_base.specs.Piece.{Form, byte, ◌▸◌}
use Rattle.wenc_parts.specs.declared.exports.ComponentExportKind.{ComponentExportKind}
use Rattle.wenc_parts.specs.declared.exports.ComponentExportKind.TheVariants.{Module, Func, Value}
use Rattle.wenc_parts.specs.declared.exports.ComponentExportKind.TheVariants.{«Type» as TypeKind}
use Rattle.wenc_parts.specs.declared.exports.ComponentExportKind.TheVariants.{Instance, Component}

abbrev pub component_export_kind : Form ComponentExportKind
component_export_kind Module = 0x00 ▸ byte 0x11
component_export_kind Func = byte 0x01
component_export_kind Value = byte 0x02
component_export_kind TypeKind = byte 0x03
component_export_kind Instance = byte 0x05
component_export_kind Component = byte 0x04
