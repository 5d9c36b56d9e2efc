-- The names that clauses cite, re-exported from the files that define them.
pub use Rattle.wenc_builder.specs.Item.{AliasItem, CanonItem, ComponentItem, CoreInstanceItem}
pub use Rattle.wenc_builder.specs.Item.{CoreTypeItem, CustomItem, ExportItem, HasNoRaw, ImportItem}
pub use Rattle.wenc_builder.specs.Item.{InstanceItem, IsNoRaw, Item, ModuleItem, RawItem, StartItem}
pub use Rattle.wenc_builder.specs.Item.{TypeItem, collected, item}
pub use Rattle.wenc_builder.specs.Sections.{Alone, AreEncodable, IsEncodable, Reading, Run, Section}
pub use Rattle.wenc_builder.specs.Sections.{SectionsHaveNoRaw, collects, component, item_of, joined}
pub use Rattle.wenc_builder.specs.Sections.{members, preamble, runs, section_piece, sections, whole}
pub use Rattle.wenc_builder.specs.Space.{Indices, IsIndexAt, IsIndexOf, canonical_space, defined_in}
pub use Rattle.wenc_builder.specs.Space.{defines, index_of, indices_in, next_index, number_in}
pub use Rattle.wenc_builder.specs.Space.{some_in}
pub use Rattle.wenc_builder.specs.Entry.{Entry, EntryCause, StartIsNameless, alias_entry}
pub use Rattle.wenc_builder.specs.Entry.{alias_export_entry, canonical_entry, canonical_tree_entry}
pub use Rattle.wenc_builder.specs.Entry.{component_entry, core_alias_export_entry}
pub use Rattle.wenc_builder.specs.Entry.{core_instance_entry, core_type_entry, custom_entry, entry}
pub use Rattle.wenc_builder.specs.Entry.{export_entry, import_entry, instance_entry, items}
pub use Rattle.wenc_builder.specs.Entry.{module_entry, named_in, names, names_from, raw_entry}
pub use Rattle.wenc_builder.specs.Entry.{start_entry, type_entry}
pub use Rattle.wenc_builder.specs.Builder.{BegunItem, Content, Namespace, NewItem, OpenSection}
pub use Rattle.wenc_builder.specs.Builder.{SectionsState, State, begun_appended}
pub use Rattle.wenc_builder.specs.Builder.{builder_is_finished, content_of, content_with, count_in}
pub use Rattle.wenc_builder.specs.Builder.{entered, entered_at, item_appended, item_begun}
pub use Rattle.wenc_builder.specs.Builder.{item_ended, item_given_up, namespace_at, namespace_with}
pub use Rattle.wenc_builder.specs.Builder.{new_item, new_item_in, new_item_indices, no_names}
pub use Rattle.wenc_builder.specs.Builder.{open_text_of, sections_text, settled_in, space_with}
pub use Rattle.wenc_builder.specs.Builder.{spaces_with, step, with_entry}
pub use Rattle.wenc_builder.specs.Holds.{Holds, SectionsHold, namespace_of, open_of}
pub use Rattle.wenc_builder.specs.Cause.{AddingCause, BeginCause, CallCause, EnterCause, IndexCause}
pub use Rattle.wenc_builder.specs.Cause.{NoRoom, SectionCause, SpaceCause}
pub use Rattle.wenc_builder.specs.Enters.{BeginsItem, Enters, EntersListed, EntersWith}
pub use Rattle.wenc_builder.specs.Enters.{EntersWithoutIndex, IsCountAt}
pub use Rattle.wenc_builder.specs.Adds.{AddsItem, AddsWholeItem}
pub use Rattle.wenc_builder.specs.ParentState.{IsItemText, builder_is_opened, is_whole}
pub use Rattle.wenc_builder.specs.ParentState.{no_room_in_section}
pub use Rattle.wenc_builder.specs.DebugNames.{AddsNames, by_space, named_entry, names_entry, names_held}
pub use Rattle.wenc_builder.specs.DebugNames.{none_named, space_names}
pub use Rattle.wenc_builder.specs.Producers.{producers_entry}
pub use Rattle.wenc_builder.specs.inside.SectionBodies.{custom_lead, with_bytes}
pub use Rattle.wenc_builder.specs.inside.Layout.{AppendsSection, Buffered, IsLaidOut, OpensAnother}
pub use Rattle.wenc_builder.specs.inside.Layout.{SectionFits, SectionIsIn, Writing, buffer_appended}
pub use Rattle.wenc_builder.specs.inside.Layout.{buffer_begun, buffer_ended, buffer_given_up}
pub use Rattle.wenc_builder.specs.inside.Layout.{buffer_view, buffer_with, buffered_content}
pub use Rattle.wenc_builder.specs.inside.Layout.{closed_with, earlier_view, kept_before, kept_with}
pub use Rattle.wenc_builder.specs.inside.Layout.{kind_id, new_item_of, nothing_buffered, open_head}
pub use Rattle.wenc_builder.specs.inside.Layout.{section_appended, section_begun, section_head}
pub use Rattle.wenc_builder.specs.inside.Spaces.{CanUndo, IsOf, NamesFit, Spaced, empty_spaces}
pub use Rattle.wenc_builder.specs.inside.Spaces.{space_view, spaced, spaces_begun, spaces_ended}
pub use Rattle.wenc_builder.specs.inside.Spaces.{taken, undo_at, undone}
pub use Rattle.wenc_builder.specs.inside.Adds.{AddsListedItem, AddsSection, AddsUnindexedSection}
pub use Rattle.wenc_builder.specs.inside.Adds.{IsItemPiece, content_with_section}
pub use Rattle.wenc_builder.specs.inside.View.{Agree, IsBuilder, builder_view}
pub use Rattle.wenc_builder.specs.laws.ParentState.{begun_given_up, item_appended_twice}
pub use Rattle.wenc_builder.specs.laws.ParentState.{opened_is_begun, still_begun}
pub use Rattle.wenc_base.specs.declared.fault.Fault.{Fault}
pub use Rattle.wenc_builder.specs.declared.builder.spaces.Undo.{Undo}
pub use Rattle.wenc_builder.specs.laws.Never.{never_unfinished}
pub use Rattle.wenc_builder.specs.laws.Reading.{of_bytes, of_items, once}
