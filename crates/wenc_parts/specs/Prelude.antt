-- The names that clauses cite, re-exported from the files that define them.
pub use Rattle.wenc_parts.specs.SectionIds.{section_id, section_number}
pub use Rattle.wenc_parts.specs.Component.{preamble}
pub use Rattle.wenc_parts.specs.Types.{primitive, primitive_byte, result_list, value_type}
pub use Rattle.wenc_parts.specs.Exports.{component_export_kind}
pub use Rattle.wenc_parts.specs.Imports.{ExternName, ExternalId, Implements, NameOption}
pub use Rattle.wenc_parts.specs.Imports.{VersionSuffix, extern_name, extern_name_view, kind_of}
pub use Rattle.wenc_parts.specs.Imports.{name_option, name_options, name_tree_view, name_with}
pub use Rattle.wenc_parts.specs.Imports.{plain_name, present, type_bounds, type_reference}
pub use Rattle.wenc_parts.specs.Instances.{module_argument}
pub use Rattle.wenc_parts.specs.Aliases.{AliasOf, CoreInstanceExport, InstanceExport, Outer, alias}
pub use Rattle.wenc_parts.specs.Aliases.{alias_tree_view, alias_view, outer_kind}
pub use Rattle.wenc_parts.specs.inside.NameOptions.{option_entry}
pub use Rattle.wenc_parts.specs.reading.Aliases.{read_alias, read_core_alias, read_core_export}
pub use Rattle.wenc_parts.specs.reading.Aliases.{read_export, read_export_or_outer}
pub use Rattle.wenc_parts.specs.reading.Aliases.{read_exported_alias, read_outer}
pub use Rattle.wenc_parts.specs.reading.Exports.{read_component_export_kind}
pub use Rattle.wenc_parts.specs.reading.Imports.{option_number, read_extern_name, read_name_option}
pub use Rattle.wenc_parts.specs.reading.Imports.{with_option}
pub use Rattle.wenc_parts.specs.reading.Instances.{read_module_argument}
pub use Rattle.wenc_parts.specs.reading.Types.{primitive_rows, read_value_type}
pub use Rattle.wenc_parts.specs.laws.Aliases.{alias_lawful, alias_sound, outer_kind_lawful}
pub use Rattle.wenc_parts.specs.laws.Exports.{component_export_kind_lawful}
pub use Rattle.wenc_parts.specs.laws.Exports.{component_export_kind_sound}
pub use Rattle.wenc_parts.specs.laws.Imports.{extern_name_lawful, extern_name_sound}
pub use Rattle.wenc_parts.specs.laws.Imports.{type_bounds_lawful, type_bounds_sound}
pub use Rattle.wenc_parts.specs.laws.Imports.{type_reference_lawful, type_reference_sound}
pub use Rattle.wenc_parts.specs.laws.Instances.{module_argument_lawful, module_argument_sound}
pub use Rattle.wenc_parts.specs.laws.SectionIds.{section_lawful}
pub use Rattle.wenc_parts.specs.laws.Types.{primitive_lawful, result_list_lawful, result_list_sound}
pub use Rattle.wenc_parts.specs.laws.Types.{same_result_list, value_type_lawful, value_type_sound}
