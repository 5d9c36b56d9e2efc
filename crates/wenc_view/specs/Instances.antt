-- Borrowed instances as pure ones.
use Rattle.std.specs.Prelude.{List, [], ◌∷◌}
use Rattle.wenc_base.specs.reading.Exports.{read_core_export_kind}
use Rattle.wenc_base.specs.reading.Forms.{read_name}
use Rattle.wenc_base.specs.reading.Numbers.{read_u32}
use Rattle.wenc_parts.specs.reading.Exports.{read_component_export_kind}
use Rattle.wenc_parts.specs.reading.Imports.{read_extern_name}
use Rattle.wenc_parts.specs.reading.Instances.{read_module_argument}
use Rattle.wenc_sections.specs.Instances.{CoreInstance, CoreInstantiate, CoreExports}
use Rattle.wenc_sections.specs.Instances.{Instance, Instantiate, Exports}
use Rattle.wenc_sections.specs.reading.Pairs.{read_pair, read_triple}
use Rattle.wenc_view.specs.Members.{Place, list_view, place_of}
use Rattle.wenc_view.specs.declared.instances.CoreInstanceView.{CoreInstanceView}
use Rattle.wenc_view.specs.declared.instances.CoreInstanceView.TheVariants as core_views
use Rattle.wenc_view.specs.declared.instances.InstanceView.{InstanceView}
use Rattle.wenc_view.specs.declared.instances.InstanceView.TheVariants as views

abbrev pub core_instance_seen : CoreInstanceView → CoreInstance
core_instance_seen (core_views.Instantiate index args) =
    CoreInstantiate index (list_view (read_pair read_name read_module_argument) args)
core_instance_seen (core_views.Exports exports) =
    CoreExports (list_view (read_triple read_name read_core_export_kind read_u32) exports)

abbrev pub instance_seen : InstanceView → Instance
instance_seen (views.Instantiate index args) =
    Instantiate index (list_view (read_triple read_name read_component_export_kind read_u32) args)
instance_seen (views.Exports exports) =
    Exports (list_view (read_triple read_extern_name read_component_export_kind read_u32) exports)

-- where its arguments or its exports are
abbrev pub core_instance_lists : CoreInstanceView → List Place
core_instance_lists (core_views.Instantiate index args) =
    place_of (read_pair read_name read_module_argument) args ∷ []
core_instance_lists (core_views.Exports exports) =
    place_of (read_triple read_name read_core_export_kind read_u32) exports ∷ []

abbrev pub instance_lists : InstanceView → List Place
instance_lists (views.Instantiate index args) =
    place_of (read_triple read_name read_component_export_kind read_u32) args ∷ []
instance_lists (views.Exports exports) =
    place_of (read_triple read_extern_name read_component_export_kind read_u32) exports ∷ []
