-- The laws of the items of flat sections.
use Rattle.std.proofs.Common.{refl}
use Rattle.wenc_base.specs.Prelude.{Lawful, Sound, choose_tells}
use Rattle.wenc_base.specs.Prelude.{core_export_kind_lawful as core_kind_lawful}
use Rattle.wenc_base.specs.Prelude.{core_export_kind_sound as core_kind_sound, last, last_tells}
use Rattle.wenc_base.specs.Prelude.{list_lawful, list_sound, name_lawful, name_sound, nowhere_tells}
use Rattle.wenc_base.specs.Prelude.{option_lawful, option_sound, row_lawful, sized_lawful, then}
use Rattle.wenc_base.specs.Prelude.{then_tells, u32_lawful, u32_sound, whole_lawful}
use Rattle.wenc_sections.specs.laws.Pairs.{pair_lawful, pair_sound, triple_lawful, triple_sound}
use Rattle.wenc_parts.specs.Prelude.{component_export_kind_lawful, component_export_kind_sound}
use Rattle.wenc_parts.specs.Prelude.{extern_name_lawful, extern_name_sound, module_argument_lawful}
use Rattle.wenc_parts.specs.Prelude.{module_argument_sound, type_reference_lawful}
use Rattle.wenc_parts.specs.Prelude.{type_reference_sound}
use Rattle.wenc_sections.specs.Imports.{Import, import_item}
use Rattle.wenc_sections.specs.Exports.{Export, export_item}
use Rattle.wenc_sections.specs.Instances.{CoreInstance, CoreInstantiate, CoreExports, core_instance}
use Rattle.wenc_sections.specs.Instances.{Instance, Instantiate, Exports, instance}
use Rattle.wenc_sections.specs.Start.{Start, started, start_content, start}
use Rattle.wenc_sections.specs.inside.Items.{ascribed, imported, read_import, read_inline_export}
use Rattle.wenc_sections.specs.reading.Items.{read_core_instance, read_instance, read_start, read_start_content}

-- ---- imports and exports

pub import_lawful : (i : Import) → Lawful (import_item i) (λ fuel. read_import) i
import_lawful i = then _ (extern_name_lawful i.name) (last (imported i.name) (type_reference_lawful i.ty))

pub import_sound : Sound import_item read_import
import_sound = then_tells _ extern_name_sound
    (λ name. last_tells (imported name) type_reference_sound
    (λ ty middle rest r bytes p. (middle, p, r)))

pub inline_export_lawful : (e : Export) → Lawful (export_item e) (λ fuel. read_inline_export) e
inline_export_lawful e = then _ (extern_name_lawful e.name)
    (then _ (component_export_kind_lawful e.kind)
    (then _ (u32_lawful e.index) (last (ascribed e.name e.kind e.index)
    (option_lawful type_reference_lawful e.ty))))

pub inline_export_sound : Sound export_item read_inline_export
inline_export_sound =
    then_tells _ extern_name_sound (λ name. then_tells _ component_export_kind_sound
    (λ kind. then_tells _ u32_sound (λ index. last_tells (ascribed name kind index)
    (option_sound type_reference_sound)
    (λ ty c rest r b q a p bytes o. (a, o, (b, p, (c, q, r)))))))

-- ---- instances of core modules

pub core_instance_lawful : (i : CoreInstance) → Lawful (core_instance i) (λ fuel. read_core_instance) i
core_instance_lawful (CoreInstantiate module_index arguments) =
    row_lawful _ _ 0x00 (then _ (u32_lawful module_index)
    (last (CoreInstantiate module_index)
    (list_lawful (pair_lawful name_lawful module_argument_lawful) arguments)))
core_instance_lawful (CoreExports exports) = row_lawful _ _ 0x01
    (last CoreExports (list_lawful (triple_lawful name_lawful core_kind_lawful u32_lawful) exports))

pub core_instance_sound : Sound core_instance read_core_instance
core_instance_sound = choose_tells _ _ (
  then_tells _ u32_sound (λ module_index. last_tells (CoreInstantiate module_index)
      (list_sound (pair_sound name_sound module_argument_sound))
      (λ arguments middle rest r bytes p. (bytes, refl, (middle, p, r)))),
  (
    last_tells CoreExports (list_sound (triple_sound name_sound core_kind_sound u32_sound))
        (λ exports bytes rest r. (bytes, refl, r)),
    tt,
  ),
) nowhere_tells

-- ---- instances of components

pub instance_lawful : (i : Instance) → Lawful (instance i) (λ fuel. read_instance) i
instance_lawful (Instantiate component_index arguments) =
    row_lawful _ _ 0x00 (then _ (u32_lawful component_index)
    (last (Instantiate component_index)
    (list_lawful (triple_lawful name_lawful component_export_kind_lawful u32_lawful) arguments)))
instance_lawful (Exports exports) =
    row_lawful _ _ 0x01 (last Exports (list_lawful
    (triple_lawful extern_name_lawful component_export_kind_lawful u32_lawful) exports))

pub instance_sound : Sound instance read_instance
instance_sound = choose_tells _ _ (
  then_tells _ u32_sound (λ component_index. last_tells (Instantiate component_index)
      (list_sound (triple_sound name_sound component_export_kind_sound u32_sound))
      (λ arguments middle rest r bytes p. (bytes, refl, (middle, p, r)))),
  (
    last_tells Exports (list_sound (triple_sound extern_name_sound component_export_kind_sound
        u32_sound)) (λ exports bytes rest r. (bytes, refl, r)),
    tt,
  ),
) nowhere_tells

-- ---- sections

pub start_content_lawful : (s : Start) → Lawful (start_content s) (λ fuel. read_start_content) s
start_content_lawful s = then _ (u32_lawful s.function)
    (then _ (list_lawful u32_lawful s.arguments)
    (last (started s.function s.arguments) (u32_lawful s.results)))

pub start_content_sound : Sound start_content read_start_content
start_content_sound = then_tells _ u32_sound
    (λ function. then_tells _ (list_sound u32_sound)
    (λ arguments. last_tells (started function arguments) u32_sound
    (λ results b rest r a q bytes p. (a, p, (b, q, r)))))

pub start_lawful : (s : Start) → Lawful (start s) (λ fuel. read_start) s
start_lawful s = sized_lawful (whole_lawful (start_content_lawful s))
