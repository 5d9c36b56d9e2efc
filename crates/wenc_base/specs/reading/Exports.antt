-- The reader of the kinds of exports.
use Rattle.std.specs.Prelude.{[], ◌∷◌}
use Rattle.wenc_base.specs.Readers.{Reader, give, nowhere, choose}
use Rattle.wenc_base.specs.declared.exports.ExportKind.{ExportKind}
use Rattle.wenc_base.specs.declared.exports.ExportKind.TheVariants.{Func, Table, Memory, Global, Tag}

abbrev pub read_core_export_kind : Reader ExportKind
read_core_export_kind =
    choose ((0x00, give Func) ∷ (0x01, give Table) ∷ (0x02, give Memory) ∷ (0x03, give Global) ∷
    (0x04, give Tag) ∷ []) nowhere
