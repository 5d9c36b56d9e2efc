-- Why every form is lawful: its values have a reader in common.
use Rattle.std.proofs.Common.{[], true}
use Rattle.wenc_base.specs.Prelude.{FormLaws, Func, IsReadable, Lawful, Reader, Rec, RecType}
use Rattle.wenc_base.specs.Prelude.{Single, Sub, abstract_type_lawful, byte_list_lawful, choose}
use Rattle.wenc_base.specs.Prelude.{composite_type_lawful}
use Rattle.wenc_base.specs.Prelude.{core_export_kind_lawful as core_kind_lawful, counted_lawful}
use Rattle.wenc_base.specs.Prelude.{custom_lawful, entity_type_lawful, field_type_lawful, final}
use Rattle.wenc_base.specs.Prelude.{flag_lawful, form_laws, give, global_type_lawful, group_lawful}
use Rattle.wenc_base.specs.Prelude.{heap_type_lawful, i64_lawful, index_lawful, last, list_lawful}
use Rattle.wenc_base.specs.Prelude.{memory_type_lawful, name_association_lawful, name_lawful}
use Rattle.wenc_base.specs.Prelude.{nowhere, nullable, option_lawful, producer_lawful}
use Rattle.wenc_base.specs.Prelude.{producers_field_lawful, read_list, read_u32, reference_lawful}
use Rattle.wenc_base.specs.Prelude.{standing, storage_type_lawful, sub_type_lawful}
use Rattle.wenc_base.specs.Prelude.{table_type_lawful, tag_type_lawful, then, to, u32_lawful}
use Rattle.wenc_base.specs.Prelude.{u64_lawful, val_type_lawful, ◌>>=◌}
use Rattle.wenc_base.specs.laws.Delimited.{pair_readable}
use Rattle.wenc_sections.specs.Prelude.{Start, core_instance_lawful, import_lawful}
use Rattle.wenc_sections.specs.Prelude.{inline_export_lawful, instance_lawful, names_section_lawful}
use Rattle.wenc_sections.specs.Prelude.{pair_lawful, sort_lawful, start_content, start_lawful}
use Rattle.wenc_sections.specs.Prelude.{started, triple_lawful}
use Rattle.wenc_base.specs.laws.Sections.{producers_section_lawful}
use Rattle.wenc_canon.specs.Prelude.{canonical_lawful, canonical_option_lawful}
use Rattle.wenc_canon.specs.laws.Canonicals.{field_lawful, fields_lawful}
use Rattle.wenc_parts.specs.Prelude.{alias_lawful, component_export_kind_lawful, extern_name_lawful}
use Rattle.wenc_parts.specs.Prelude.{module_argument_lawful, outer_kind_lawful, primitive_lawful}
use Rattle.wenc_parts.specs.Prelude.{result_list_lawful, section_lawful, type_bounds_lawful}
use Rattle.wenc_parts.specs.Prelude.{type_reference_lawful, value_type_lawful}
use Rattle.wenc_parts.specs.laws.Imports.{name_option_lawful}
use Rattle.wenc_types.specs.Prelude.{case_lawful, component_declaration_lawful, core_type_lawful}
use Rattle.wenc_types.specs.Prelude.{defined_type_lawful, instance_declaration_lawful}
use Rattle.wenc_types.specs.Prelude.{labelled_type_lawful, module_declaration_lawful, standing_rows}
use Rattle.wenc_types.specs.Prelude.{type_lawful}
use Rattle.wenc_base.specs.declared.types.RefType.{RefType}
use Rattle.wenc_types.specs.laws.CoreTypes.{module_type_lawful, standing_row}
use Rattle.wenc_types.specs.laws.DefinedTypes.{function_type_lawful}
use Rattle.wasm_encoder.specs.AllForms as forms
use Rattle.wasm_encoder.specs.Prelude.{FormName, form_of}

-- ---- parts of other forms

-- a nullable reference is a reference
nullable_readable : IsReadable nullable
nullable_readable = (_, λ h. last (λ (r : RefType). r.heap_type) (reference_lawful (to true h)))

-- what is read of a group in a component
abbrev read_standing : Reader RecType
read_standing = choose (standing_rows (λ g. g)) nowhere

-- groups in a component, as they stand there
standing_lawful : (g : RecType) → Lawful (standing true g) (λ fuel. read_standing) g
standing_lawful g = standing_row (λ h. h) (λ fuel. []) _ g

-- they have a reader
standing_readable : IsReadable (standing true)
standing_readable = (_, standing_lawful)

-- the type of a group of one; of another any
abbrev alone : RecType → Sub
alone (Single s) = s
alone (Rec types) = final (Func [] [])

-- a type with its guard is a group of one
guarded_readable : IsReadable (λ s. standing true (Single s))
guarded_readable = (_, λ s. last alone (standing_lawful (Single s)))

-- the function, its arguments, how many results
abbrev read_start_content : Reader Start
read_start_content = read_u32 >>= λ function. read_list read_u32 >>= λ arguments. read_u32 >>= λ results. give (started function arguments results)

-- starts without their size have a reader
start_content_readable : IsReadable start_content
start_content_readable = (
  (λ fuel. read_start_content),
  λ s. then _ (u32_lawful s.function) (then _ (list_lawful u32_lawful s.arguments) (last (started s.function s.arguments) (u32_lawful s.results))),
)

-- ---- the table

-- each form has a reader, by the law of each of its values
pub lawful_of : (f : FormName) → IsReadable (form_of f)
lawful_of forms.Flags = (_, flag_lawful)
lawful_of forms.Numbers = (_, u32_lawful)
lawful_of forms.LongNumbers = (_, u64_lawful)
lawful_of forms.SignedNumbers = (_, i64_lawful)
lawful_of forms.Indices = (_, index_lawful)
lawful_of forms.Names = (_, name_lawful)
lawful_of forms.ByteLists = (_, byte_list_lawful)
lawful_of forms.CoreKinds = (_, core_kind_lawful)
lawful_of forms.AbstractHeapTypes = (_, abstract_type_lawful)
lawful_of forms.HeapTypes = (_, heap_type_lawful)
lawful_of forms.NullableReferences = nullable_readable
lawful_of forms.References = (_, reference_lawful)
lawful_of forms.CoreValueTypes = (_, val_type_lawful)
lawful_of forms.StorageTypes = (_, storage_type_lawful)
lawful_of forms.FieldTypes = (_, field_type_lawful)
lawful_of forms.CompositeTypes = (_, composite_type_lawful)
lawful_of forms.SubTypes = (_, sub_type_lawful)
lawful_of forms.Groups = (_, group_lawful)
lawful_of forms.TableTypes = (_, table_type_lawful)
lawful_of forms.MemoryTypes = (_, memory_type_lawful)
lawful_of forms.GlobalTypes = (_, global_type_lawful)
lawful_of forms.TagTypes = (_, tag_type_lawful)
lawful_of forms.EntityTypes = (_, entity_type_lawful)
lawful_of forms.SectionIds = (_, section_lawful)
lawful_of forms.PrimitiveTypes = (_, primitive_lawful)
lawful_of forms.ValueTypes = (_, value_type_lawful)
lawful_of forms.ResultLists = (_, result_list_lawful)
lawful_of forms.ExportKinds = (_, component_export_kind_lawful)
lawful_of forms.Bounds = (_, type_bounds_lawful)
lawful_of forms.TypeReferences = (_, type_reference_lawful)
lawful_of forms.NameOptions = (_, name_option_lawful)
lawful_of forms.ExternNames = (_, extern_name_lawful)
lawful_of forms.ModuleArguments = (_, module_argument_lawful)
lawful_of forms.OuterKinds = (_, outer_kind_lawful)
lawful_of forms.GuardedSubTypes = guarded_readable
lawful_of forms.GroupsInComponents = standing_readable
lawful_of forms.ModuleDeclarations = (_, module_declaration_lawful)
lawful_of forms.ModuleTypes = (_, module_type_lawful)
lawful_of forms.CoreTypes = (_, core_type_lawful)
lawful_of forms.LabelledTypes = (_, labelled_type_lawful)
lawful_of forms.Cases = (_, case_lawful)
lawful_of forms.DefinedTypes = (_, defined_type_lawful)
lawful_of forms.FunctionTypes = (_, function_type_lawful)
lawful_of forms.Types = (_, type_lawful)
lawful_of forms.InstanceDeclarations = (_, instance_declaration_lawful)
lawful_of forms.ComponentDeclarations = (_, component_declaration_lawful)
lawful_of forms.Aliases = (_, alias_lawful)
lawful_of forms.Imports = (_, import_lawful)
lawful_of forms.Exports = (_, inline_export_lawful)
lawful_of forms.Arguments = (_, pair_lawful name_lawful module_argument_lawful)
lawful_of forms.CoreExports = (_, triple_lawful name_lawful core_kind_lawful u32_lawful)
lawful_of forms.CoreInstances = (_, core_instance_lawful)
lawful_of forms.ComponentArguments = (_, triple_lawful name_lawful component_export_kind_lawful u32_lawful)
lawful_of forms.InstanceExports = (_, triple_lawful extern_name_lawful component_export_kind_lawful u32_lawful)
lawful_of forms.Instances = (_, instance_lawful)
lawful_of forms.CanonicalOptions = (_, canonical_option_lawful)
lawful_of (forms.CanonicalField kind) = (_, field_lawful kind)
lawful_of (forms.CanonicalFields kinds) = (_, fields_lawful kinds)
lawful_of forms.CanonicalFunctions = (_, canonical_lawful)
lawful_of forms.VersionedTools = (_, producer_lawful)
lawful_of forms.ProducersFields = (_, producers_field_lawful)
lawful_of forms.NameAssociations = (_, name_association_lawful)
lawful_of forms.ItemSorts = (_, sort_lawful)
lawful_of forms.CustomSections = (_, custom_lawful)
lawful_of forms.NameSections = (_, names_section_lawful)
lawful_of forms.ProducersSections = (_, producers_section_lawful)
lawful_of forms.StartContents = start_content_readable
lawful_of forms.StartSections = (_, start_lawful)
lawful_of (forms.ListsOf member) = (_, list_lawful (lawful_of member).1)
lawful_of (forms.SectionsOf member) = (_, counted_lawful (lawful_of member).1)
lawful_of (forms.OptionsOf member) = (_, option_lawful (lawful_of member).1)
lawful_of (forms.PairsOf first second) = pair_readable (form_of first) (form_of second) (lawful_of first) (lawful_of second)

-- so that all laws hold of it
pub laws_of : (f : FormName) → FormLaws (form_of f)
laws_of f = form_laws (lawful_of f).1
