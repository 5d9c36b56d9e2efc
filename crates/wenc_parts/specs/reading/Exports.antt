-- Readers of the kinds of exports.
use Rattle.std.specs.Prelude.{[], ◌∷◌}
use Rattle.wenc_base.specs.Readers.{Reader, give, nowhere, choose}
use Rattle.wenc_parts.specs.declared.exports.ComponentExportKind.{ComponentExportKind}
use Rattle.wenc_parts.specs.declared.exports.ComponentExportKind.TheVariants.{Module, Func, Value}
use Rattle.wenc_parts.specs.declared.exports.ComponentExportKind.TheVariants.{«Type» as TypeKind}
use Rattle.wenc_parts.specs.declared.exports.ComponentExportKind.TheVariants.{Instance, Component}

abbrev pub read_component_export_kind : Reader ComponentExportKind
read_component_export_kind = choose (
    (0x00, choose ((0x11, give Module) ∷ []) nowhere) ∷
    (0x01, give Func) ∷
    (0x02, give Value) ∷
    (0x03, give TypeKind) ∷
    (0x05, give Instance) ∷
    (0x04, give Component) ∷ []) nowhere
