-- The names that clauses cite, re-exported from the files that define them.
pub use Rattle.wenc_sections.specs.Imports.{Import, import_item}
pub use Rattle.wenc_sections.specs.Exports.{export_item}
pub use Rattle.wenc_sections.specs.Instances.{CoreExports, CoreInstance, CoreInstantiate, Exports}
pub use Rattle.wenc_sections.specs.Instances.{Instance, Instantiate, core_instance, instance}
pub use Rattle.wenc_sections.specs.Instances.{named_pair, named_triple}
pub use Rattle.wenc_sections.specs.InstanceTrees.{core_instance_tree_view, instance_tree_view}
pub use Rattle.wenc_sections.specs.CanonTrees.{canon_view}
pub use Rattle.wenc_sections.specs.Start.{Start, start, start_content, started}
pub use Rattle.wenc_sections.specs.Space.{alias_space, core_kind_space, kind_space}
pub use Rattle.wenc_sections.specs.Space.{outer_kind_space, space_number}
pub use Rattle.wenc_sections.specs.Names.{AppendsNames, AppendsSubsection, ComponentName, ItemNames}
pub use Rattle.wenc_sections.specs.Names.{RawNames, RoomCause, Subsection, held_subsection}
pub use Rattle.wenc_sections.specs.Names.{item_sort, names_label, names_section, subsection}
pub use Rattle.wenc_sections.specs.Pairs.{triple}
pub use Rattle.wenc_sections.specs.inside.InstanceTrees.{inline_export_tree}
pub use Rattle.wenc_sections.specs.inside.Operands.{operand_behind}
pub use Rattle.wenc_sections.specs.reading.Items.{read_core_instance, read_instance, read_start}
pub use Rattle.wenc_sections.specs.reading.Items.{read_start_content}
pub use Rattle.wenc_sections.specs.reading.Pairs.{read_pair, read_triple}
pub use Rattle.wenc_sections.specs.laws.Items.{core_instance_lawful, core_instance_sound}
pub use Rattle.wenc_sections.specs.laws.Items.{import_lawful, inline_export_lawful, instance_lawful}
pub use Rattle.wenc_sections.specs.laws.Items.{instance_sound, start_lawful}
pub use Rattle.wenc_sections.specs.laws.Names.{names_section_lawful, sort_lawful}
pub use Rattle.wenc_sections.specs.laws.Pairs.{pair_lawful, pair_sound, triple_lawful, triple_sound}
pub use Rattle.wenc_base.specs.declared.fault.Fault.{Fault}
pub use Rattle.wenc_parts.specs.declared.component.ComponentSectionId.{ComponentSectionId}
pub use Rattle.wenc_sections.specs.declared.space.Space.{Space}
pub use Rattle.wenc_sections.specs.inside.Items.{ascribed, imported, read_import}
pub use Rattle.wenc_sections.specs.inside.Items.{read_inline_export}
pub use Rattle.wenc_sections.specs.laws.Instances.{core_exports_listed, core_instantiate_listed}
pub use Rattle.wenc_sections.specs.laws.Instances.{exports_listed, instantiate_listed}
