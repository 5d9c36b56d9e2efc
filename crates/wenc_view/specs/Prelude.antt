-- The names that clauses cite, re-exported from the files that define them.
pub use Rattle.wenc_view.specs.Members.{AreCounted, GivesFirst, Place, list_view, members_of}
pub use Rattle.wenc_view.specs.Members.{place_of}
pub use Rattle.wenc_view.specs.ExternNames.{name_seen}
pub use Rattle.wenc_view.specs.Texts.{name_error}
pub use Rattle.wenc_view.specs.inside.ExternNames.{option_seen, read_options}
pub use Rattle.wenc_view.specs.Depth.{OpensTypes}
pub use Rattle.wenc_view.specs.inside.Tables.{find}
pub use Rattle.wenc_view.specs.inside.TypeViews.{primitive_types, read_defined_row, handle_rows}
pub use Rattle.wenc_parts.specs.declared.imports.ComponentTypeRef.{ComponentTypeRef}
pub use Rattle.wenc_parts.specs.declared.imports.TypeBounds.{TypeBounds}
pub use Rattle.wenc_parts.specs.declared.types.ComponentValType.{ComponentValType}
pub use Rattle.wenc_view.specs.DefinedTypes.{labelled_seen, case_seen, defined_seen}
pub use Rattle.wenc_view.specs.DefinedTypes.{defined_lists}
pub use Rattle.wenc_view.specs.laws.TypeTrees.{defined_sound, type_finds, type_tells}
pub use Rattle.wenc_view.specs.CoreTypes.{composite_seen, sub_seen, rec_type_seen}
pub use Rattle.wenc_view.specs.CoreTypes.{module_declaration_seen, core_type_seen}
pub use Rattle.wenc_view.specs.CoreTypes.{composite_lists, core_type_lists, group_lists}
pub use Rattle.wenc_view.specs.CoreTypes.{module_declaration_lists}
pub use Rattle.wenc_view.specs.inside.CoreTypes.{read_guarded, read_referred}
pub use Rattle.wenc_view.specs.inside.Entities.{memory_so, read_bounds, read_maximum, table_so}
pub use Rattle.wenc_base.specs.declared.exports.ExportKind.{ExportKind}
pub use Rattle.wenc_base.specs.declared.globals.GlobalType.{GlobalType}
pub use Rattle.wenc_base.specs.declared.imports.EntityType.{EntityType}
pub use Rattle.wenc_base.specs.declared.memories.MemoryType.{MemoryType}
pub use Rattle.wenc_base.specs.declared.tables.TableType.{TableType}
pub use Rattle.wenc_base.specs.declared.tags.TagType.{TagType}
pub use Rattle.wenc_base.specs.declared.types.HeapType.{HeapType}
pub use Rattle.wenc_base.specs.declared.types.RefType.{RefType}
pub use Rattle.wenc_base.specs.declared.types.ValType.{ValType}
pub use Rattle.wenc_base.specs.declared.types.storage.FieldType.{FieldType}
pub use Rattle.wenc_base.specs.declared.types.storage.StorageType.{StorageType}
pub use Rattle.wenc_parts.specs.declared.exports.ComponentExportKind.{ComponentExportKind}
pub use Rattle.wenc_parts.specs.declared.instances.ModuleArg.{ModuleArg}
pub use Rattle.wenc_view.specs.Gives.{GivesNested}
pub use Rattle.wenc_view.specs.TypeViews.{type_seen, instance_declaration_seen}
pub use Rattle.wenc_view.specs.TypeViews.{component_declaration_seen, type_lists}
pub use Rattle.wenc_view.specs.TypeViews.{instance_declaration_lists, component_declaration_lists}
pub use Rattle.wenc_view.specs.TypeViews.{component_members, instance_members, type_nests}
pub use Rattle.wenc_view.specs.TypeViews.{instance_declaration_nests, component_declaration_nests}
pub use Rattle.wenc_view.specs.Canonicals.{canon_lists, canon_seen}
pub use Rattle.wenc_view.specs.Instances.{core_instance_lists, core_instance_seen}
pub use Rattle.wenc_view.specs.Instances.{instance_lists, instance_seen}
pub use Rattle.wenc_view.specs.inside.Canonicals.{error_context_rows, forward_rows, future_rows}
pub use Rattle.wenc_view.specs.inside.Canonicals.{read_ty_and_options, read_waited_memory}
pub use Rattle.wenc_view.specs.inside.Canonicals.{read_zero, stream_rows, thread_rows}
pub use Rattle.wenc_canon.specs.declared.canonicals.CanonicalOption.{CanonicalOption}
pub use Rattle.wenc_view.specs.laws.Members.{are_counted, list_counted, members_are}
pub use Rattle.wenc_view.specs.laws.Repeats.{at_start, is_done, stops, times_go_on}
