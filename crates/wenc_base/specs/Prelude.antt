-- The names that clauses cite, re-exported from the files that define them.
pub use Rattle.wenc_base.specs.Piece.{AnyCause, EndsWith, Form, HasForm, Piece, Spelling, Strict}
pub use Rattle.wenc_base.specs.Piece.{Wide, behind_bytes, byte, each, nothing, only_where, raw}
pub use Rattle.wenc_base.specs.Piece.{refused_for, verbatim, ◌▸◌, ◌⨾◌}
pub use Rattle.wenc_base.specs.Number.{IsSignedText, IsUnsignedText, ReadsGroups, complement, count}
pub use Rattle.wenc_base.specs.Number.{groups, i64, index, more, number_size, signed_text, size}
pub use Rattle.wenc_base.specs.Number.{turned, u32, u64, unsigned_text}
pub use Rattle.wenc_base.specs.Forms.{AreBytes, byte_list, counted, flag, list, name, option, sized}
pub use Rattle.wenc_base.specs.Fault.{IsMemory, IsWarranted, NoCause, count_cause, drawn_cause}
pub use Rattle.wenc_base.specs.Fault.{either, fault_number, member_cause, size_cause}
pub use Rattle.wenc_base.specs.Encode.{Appended, Appends, Serves, drawn_in_order, in_order}
pub use Rattle.wenc_base.specs.Encode.{list_in_order, sized_in_order}
pub use Rattle.wenc_base.specs.Delimited.{AlikeIsEqual, IsReadable, IsWritten, ReadsBack, pair}
pub use Rattle.wenc_base.specs.Exports.{core_export_kind, export_kind_byte}
pub use Rattle.wenc_base.specs.Types.{IsByteType, abstract_byte, abstract_type, heap_type}
pub use Rattle.wenc_base.specs.Types.{is_byte_type, nullable, of_byte, reference, reference_to}
pub use Rattle.wenc_base.specs.Types.{val_type}
pub use Rattle.wenc_base.specs.Composites.{Array, Composite, Func, Rec, RecType, Single, Struct}
pub use Rattle.wenc_base.specs.Composites.{Sub, array_view, composite_type, composite_view}
pub use Rattle.wenc_base.specs.Composites.{field_type, final, func_type_view, params_of, rec_type}
pub use Rattle.wenc_base.specs.Composites.{rec_type_view, results_of, standing, storage_type}
pub use Rattle.wenc_base.specs.Composites.{structure_view, sub_type, sub_type_of, sub_view}
pub use Rattle.wenc_base.specs.Entities.{entity_type, global_type, limit_flags, limits, memory_type}
pub use Rattle.wenc_base.specs.Entities.{table_type, tag_type}
pub use Rattle.wenc_base.specs.Custom.{custom}
pub use Rattle.wenc_base.specs.Producers.{FieldCause, Producer, Producers, held_field, producer}
pub use Rattle.wenc_base.specs.Producers.{producers_field, producers_held, producers_label}
pub use Rattle.wenc_base.specs.Producers.{producers_section}
pub use Rattle.wenc_base.specs.Modules.{module_preamble}
pub use Rattle.wenc_base.specs.Holder.{Accepted, AddCause, AddsListed, AddsMember, Contains}
pub use Rattle.wenc_base.specs.Holder.{ContainsSome, EncodeCause, HolderState, OneMoreCause}
pub use Rattle.wenc_base.specs.Holder.{all_bytes, content_size, cut_to, filled, gone_back}
pub use Rattle.wenc_base.specs.Holder.{held_members, held_section, held_text, holding, is_finished}
pub use Rattle.wenc_base.specs.Holder.{listed, no_members, section_text, with_kept, with_member}
pub use Rattle.wenc_base.specs.Names.{NameAssociation, name_association, name_map, names_text}
pub use Rattle.wenc_base.specs.Parent.{Borrows, Ends, EndsListed, EndsLists, Extended, Extends}
pub use Rattle.wenc_base.specs.Parent.{ExtendsListed, GivesUp, MakesWhole}
pub use Rattle.wenc_base.specs.Openings.{AppendsToMember, BeginsMember, HasMembers, is_opened}
pub use Rattle.wenc_base.specs.Openings.{member_appended, member_begun, member_ended}
pub use Rattle.wenc_base.specs.Openings.{member_given_up, member_text, no_room_in_holder}
pub use Rattle.wenc_base.specs.FormLaws.{FormLaws}
pub use Rattle.wenc_base.specs.Readers.{Bad, Deep, Flaw, Lawful, LawfulForm, Reader, all_read}
pub use Rattle.wenc_base.specs.Readers.{choose, done, give, go_on, made, nowhere, pick, read_byte}
pub use Rattle.wenc_base.specs.Readers.{times, too_deep, ◌>>=◌}
pub use Rattle.wenc_base.specs.inside.Written.{Written}
pub use Rattle.wenc_base.specs.reading.Composites.{composite_rows, final_rows, read_closed}
pub use Rattle.wenc_base.specs.reading.Composites.{read_composite, read_extension, read_field_type}
pub use Rattle.wenc_base.specs.reading.Composites.{read_group, read_storage_type, read_sub_type}
pub use Rattle.wenc_base.specs.reading.Composites.{read_types, small_rows, sub_of, sub_rows}
pub use Rattle.wenc_base.specs.reading.Entities.{table_of}
pub use Rattle.wenc_base.specs.reading.Exports.{read_core_export_kind}
pub use Rattle.wenc_base.specs.reading.Forms.{are_bytes, read_byte_list, read_flag, read_list}
pub use Rattle.wenc_base.specs.reading.Forms.{read_name, read_option, read_raw}
pub use Rattle.wenc_base.specs.reading.Numbers.{read_groups, read_index, read_u32, read_u64}
pub use Rattle.wenc_base.specs.reading.Types.{abstract_rows, long_rows, number_rows, read_heap_type}
pub use Rattle.wenc_base.specs.reading.Types.{read_reference, read_val_type, reference_rows, to}
pub use Rattle.wenc_base.specs.reading.Types.{val_type_rows}
pub use Rattle.wenc_base.specs.laws.Composites.{by_group, by_kind, by_parts, composite_type_lawful}
pub use Rattle.wenc_base.specs.laws.Composites.{composite_type_sound, field_type_lawful}
pub use Rattle.wenc_base.specs.laws.Composites.{field_type_sound, group_lawful, group_sound}
pub use Rattle.wenc_base.specs.laws.Composites.{last_of_three, plain, same_element, same_fields}
pub use Rattle.wenc_base.specs.laws.Composites.{same_params, same_results, storage_type_lawful}
pub use Rattle.wenc_base.specs.laws.Composites.{storage_type_sound, sub_type_lawful, sub_type_sound}
pub use Rattle.wenc_base.specs.laws.Delimited.{as_itself, as_seen, back_through, itself, list_back}
pub use Rattle.wenc_base.specs.laws.Delimited.{list_equal, option_back, option_equal, pair_back}
pub use Rattle.wenc_base.specs.laws.Delimited.{pair_equal}
pub use Rattle.wenc_base.specs.laws.Entities.{entity_type_lawful, entity_type_sound}
pub use Rattle.wenc_base.specs.laws.Entities.{global_type_lawful, global_type_sound}
pub use Rattle.wenc_base.specs.laws.Entities.{memory_type_lawful, memory_type_sound}
pub use Rattle.wenc_base.specs.laws.Entities.{table_type_lawful, table_type_sound, tag_type_lawful}
pub use Rattle.wenc_base.specs.laws.Entities.{tag_type_sound}
pub use Rattle.wenc_base.specs.laws.Exports.{core_export_kind_lawful, core_export_kind_sound}
pub use Rattle.wenc_base.specs.laws.Forms.{byte_list_lawful, bytes_lawful, bytes_pass}
pub use Rattle.wenc_base.specs.laws.Forms.{counted_lawful, flag_lawful, flag_sound, list_lawful}
pub use Rattle.wenc_base.specs.laws.Forms.{list_sound, name_lawful, name_sound, option_lawful}
pub use Rattle.wenc_base.specs.laws.Forms.{option_sound, sized_lawful}
pub use Rattle.wenc_base.specs.laws.Holders.{adds_as, adds_listed_as, all_more, contains_next}
pub use Rattle.wenc_base.specs.laws.Holders.{contains_opened, given_up_is_before}
pub use Rattle.wenc_base.specs.laws.Holders.{member_appended_twice, opened_is_unfinished}
pub use Rattle.wenc_base.specs.laws.Holders.{section_text_of}
pub use Rattle.wenc_base.specs.laws.Names.{held_names, name_association_lawful}
pub use Rattle.wenc_base.specs.laws.Numbers.{count_free, count_lawful, i64_lawful, index_lawful}
pub use Rattle.wenc_base.specs.laws.Numbers.{index_sound, index_starts, size_free, u32_groups}
pub use Rattle.wenc_base.specs.laws.Numbers.{u32_lawful, u32_sound, u64_lawful}
pub use Rattle.wenc_base.specs.laws.Serves.{IsAmong, appends_as, appends_finished, behind_is}
pub use Rattle.wenc_base.specs.laws.Serves.{both_serve, either_free, fits_as, itself_among}
pub use Rattle.wenc_base.specs.laws.Serves.{left_free, list_is_list, list_serves, listed_serves}
pub use Rattle.wenc_base.specs.laws.Serves.{lists_serve, option_serves, order_serves, right_free}
pub use Rattle.wenc_base.specs.laws.Serves.{serves_itself, serves_then, still_warranted}
pub use Rattle.wenc_base.specs.laws.Serves.{tagged_serves, three_serve, two_serve, with_nothing}
pub use Rattle.wenc_base.specs.laws.Types.{abstract_type_lawful, abstract_types, heap_type_lawful}
pub use Rattle.wenc_base.specs.laws.Types.{heap_type_sound, reference_lawful, reference_sound}
pub use Rattle.wenc_base.specs.laws.Types.{val_type_lawful, val_type_sound}
pub use Rattle.wenc_base.specs.declared.fault.Fault.{Fault}
pub use Rattle.wenc_base.specs.declared.types.ValType.{ValType}
pub use Rattle.wenc_base.specs.declared.types.storage.FieldType.{FieldType}
pub use Rattle.wenc_base.specs.declared.holder.openings.Opening.{Opening}
pub use Rattle.wenc_base.specs.declared.types.sub.SubType.{SubType}
pub use Rattle.wenc_base.specs.inside.Sections.{labelled_section, read_custom_content}
pub use Rattle.wenc_base.specs.laws.Lawful.{IsPast, LawfulWhole, Starts, ends_on, first_of_two}
pub use Rattle.wenc_base.specs.laws.Lawful.{form_laws, last, nothing_lawful, or_widely_lawful, past}
pub use Rattle.wenc_base.specs.laws.Lawful.{refused_lawful, row_byte, row_lawful, same_Ok_pair}
pub use Rattle.wenc_base.specs.laws.Lawful.{then, then_whole, whole_lawful}
pub use Rattle.wenc_base.specs.laws.Members.{closed_as_it_is, form_ends, keeps_added, keeps_list}
pub use Rattle.wenc_base.specs.laws.Members.{keeps_listed, keeps_took, opened_whole, serves_form}
pub use Rattle.wenc_base.specs.laws.Members.{written_text}
pub use Rattle.wenc_base.specs.laws.Sections.{custom_lawful, producer_lawful}
pub use Rattle.wenc_base.specs.laws.Sections.{producers_field_lawful, read_producer}
pub use Rattle.wenc_base.specs.laws.Sections.{read_producers_field}
pub use Rattle.wenc_base.specs.laws.Sound.{Agrees, Fewer, Finds, RowsAreSound, Several, Sound}
pub use Rattle.wenc_base.specs.laws.Sound.{SoundWhole, Tells, Told, both_tables, choose_tells}
pub use Rattle.wenc_base.specs.laws.Sound.{deep_where, give_tells, given_rows, last_finds}
pub use Rattle.wenc_base.specs.laws.Sound.{last_tells, lawful_finds, nowhere_tells, or_deeper}
pub use Rattle.wenc_base.specs.laws.Sound.{sound_behind, sound_tells, tested, then_tells}
pub use Rattle.wenc_base.specs.laws.Sound.{times_told, told_on, weaken}
