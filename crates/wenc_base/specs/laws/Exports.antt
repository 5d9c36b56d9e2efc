-- The law of the kinds of exports.
use Rattle.std.proofs.Common.{[], ◌∷◌, refl}
use Rattle.wenc_base.specs.Exports.{core_export_kind, export_kind_byte}
use Rattle.wenc_base.specs.Readers.{Lawful}
use Rattle.wenc_base.specs.laws.Lawful.{row_byte}
use Rattle.wenc_base.specs.laws.Sound.{Sound, given_rows, nowhere_tells, choose_tells}
use Rattle.wenc_base.specs.declared.exports.ExportKind.{ExportKind}
use Rattle.wenc_base.specs.declared.exports.ExportKind.TheVariants.{Func, Table, Memory, Global, Tag}
use Rattle.wenc_base.specs.reading.Exports.{read_core_export_kind}

pub core_export_kind_lawful : (kind : ExportKind) → Lawful (core_export_kind kind) (λ fuel. read_core_export_kind) kind
core_export_kind_lawful Func = row_byte _ _ 0x00 (λ fuel rest. refl)
core_export_kind_lawful Table = row_byte _ _ 0x01 (λ fuel rest. refl)
core_export_kind_lawful Memory = row_byte _ _ 0x02 (λ fuel rest. refl)
core_export_kind_lawful Global = row_byte _ _ 0x03 (λ fuel rest. refl)
core_export_kind_lawful Tag = row_byte _ _ 0x04 (λ fuel rest. refl)

pub core_export_kind_sound : Sound core_export_kind read_core_export_kind
core_export_kind_sound = choose_tells _ _ (given_rows core_export_kind export_kind_byte
    (λ kind. kind) (λ kind rest. refl) (Func ∷ Table ∷ Memory ∷ Global ∷ Tag ∷ [])) nowhere_tells
