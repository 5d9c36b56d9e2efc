-- The names that clauses cite, re-exported from the files that define them.
pub use Rattle.wenc_list.specs.Cursor.{HasTaken, IsFaultIn, IsFaultOfOpening, IsPlacedIn}
pub use Rattle.wenc_list.specs.Cursor.{IsRefusedIn, IsSpent, IsUnopened, Opens, StopsInside}
pub use Rattle.wenc_list.specs.Cursor.{fault_of_content}
pub use Rattle.wenc_list.specs.Cursor.{fault_of_items, fault_of_list, fault_of_section, frame_error}
pub use Rattle.wenc_list.specs.Items.{alone, item_lists, item_section, item_seen, item_view}
pub use Rattle.wenc_list.specs.Items.{section_view}
pub use Rattle.wenc_list.specs.Listing.{AreFrom, ArePlaced, AreWithin, HasDepth, HasNoHeader}
pub use Rattle.wenc_list.specs.Listing.{IsFaultBehind, IsFaultHere, IsFaultOf, IsFramed}
pub use Rattle.wenc_list.specs.Listing.{IsMemoryOrTooDeep, StopsAt, count_of_sections}
pub use Rattle.wenc_list.specs.DebugNames.{item_name_view, names_view, part, read_core_sort}
pub use Rattle.wenc_list.specs.DebugNames.{names_lists, read_item_names, read_names, read_names_in}
pub use Rattle.wenc_list.specs.DebugNames.{read_part, read_sort, subsection_by_id}
pub use Rattle.wenc_list.specs.Producers.{AreSpent, HasTakenPart, IsMalformed, IsNoField}
pub use Rattle.wenc_list.specs.Producers.{IsNoNumber, IsNoPart, IsNoTool, Part, part_seen, parts_in}
pub use Rattle.wenc_list.specs.Producers.{parts_left, producers_parts, tool_seen, with_part}
pub use Rattle.wenc_list.specs.inside.Contents.{read_alias_item, read_canonical_item}
pub use Rattle.wenc_list.specs.inside.Contents.{read_content_item, read_core_instance_item}
pub use Rattle.wenc_list.specs.inside.Contents.{read_core_type_item, read_count, read_export_item}
pub use Rattle.wenc_list.specs.inside.Contents.{read_frame, read_import_item, read_instance_item}
pub use Rattle.wenc_list.specs.inside.Contents.{read_item_in, read_type_item}
pub use Rattle.wenc_list.specs.inside.Taken.{FaultsIn, IsNextSectionOf, StopsIn, TakesAll}
pub use Rattle.wenc_list.specs.laws.DebugNames.{item_name_sound}
pub use Rattle.wenc_list.specs.declared.cursor.SectionItems.{SectionItems}
pub use Rattle.wenc_list.specs.declared.fault.ListFault.{ListFault}
pub use Rattle.wenc_list.specs.declared.listing.ListedSection.{ListedSection}
pub use Rattle.wenc_sections.specs.declared.space.Space.{Space}
pub use Rattle.wenc_list.specs.declared.cursor.Sections.{Sections}
