-- The kinds of a module's exports and imports (WebAssembly 3.0, binary format, "Export Section").
use Rattle.std.specs.Prelude.{ℕ}
use Rattle.wenc_base.specs.Piece.{Form, byte}
use Rattle.wenc_base.specs.declared.exports.ExportKind.{ExportKind}
use Rattle.wenc_base.specs.declared.exports.ExportKind.TheVariants.{Func, Table, Memory, Global}
use Rattle.wenc_base.specs.declared.exports.ExportKind.TheVariants.{Tag}

abbrev pub export_kind_byte : ExportKind → ℕ
export_kind_byte Func = 0x00
export_kind_byte Table = 0x01
export_kind_byte Memory = 0x02
export_kind_byte Global = 0x03
export_kind_byte Tag = 0x04

abbrev pub core_export_kind : Form ExportKind
core_export_kind kind = byte (export_kind_byte kind)
