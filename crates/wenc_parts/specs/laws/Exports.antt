-- The laws of the kinds of exports.
use Rattle.std.proofs.Common.{refl}
use Rattle.wenc_base.specs.Prelude.{Lawful, Sound, choose_tells, give_tells, nowhere_tells}
use Rattle.wenc_base.specs.Prelude.{row_byte, row_lawful}
use Rattle.wenc_parts.specs.declared.exports.ComponentExportKind.{ComponentExportKind}
use Rattle.wenc_parts.specs.declared.exports.ComponentExportKind.TheVariants.{Module, Func, Value}
use Rattle.wenc_parts.specs.declared.exports.ComponentExportKind.TheVariants.{«Type» as TypeKind}
use Rattle.wenc_parts.specs.declared.exports.ComponentExportKind.TheVariants.{Instance, Component}
use Rattle.wenc_parts.specs.Exports.{component_export_kind}
use Rattle.wenc_parts.specs.reading.Exports.{read_component_export_kind}

pub component_export_kind_lawful : (kind : ComponentExportKind)
    → Lawful (component_export_kind kind) (λ fuel. read_component_export_kind) kind
component_export_kind_lawful Module = row_lawful _ _ 0x00 (row_byte _ _ 0x11 (λ fuel rest. refl))
component_export_kind_lawful Func = row_byte _ _ 0x01 (λ fuel rest. refl)
component_export_kind_lawful Value = row_byte _ _ 0x02 (λ fuel rest. refl)
component_export_kind_lawful TypeKind = row_byte _ _ 0x03 (λ fuel rest. refl)
component_export_kind_lawful Instance = row_byte _ _ 0x05 (λ fuel rest. refl)
component_export_kind_lawful Component = row_byte _ _ 0x04 (λ fuel rest. refl)

pub component_export_kind_sound : Sound component_export_kind read_component_export_kind
component_export_kind_sound = choose_tells _ _ (
  choose_tells _ _ (give_tells Module (λ bytes. (_, refl, refl)), tt) nowhere_tells,
  (
    give_tells Func (λ bytes. refl),
    (
      give_tells Value (λ bytes. refl),
      (
        give_tells TypeKind (λ bytes. refl),
        (give_tells Instance (λ bytes. refl), (give_tells Component (λ bytes. refl), tt)),
      ),
    ),
  ),
) nowhere_tells
