-- The forms of the format by their names, except raw sections and subsections of names.
use Rattle.std.specs.Prelude.{true, List}
use Rattle.wenc_base.specs.Composites.{storage_type, field_type, composite_type}
use Rattle.wenc_base.specs.Composites.{Single, sub_type, rec_type, standing}
use Rattle.wenc_base.specs.Custom.{custom}
use Rattle.wenc_base.specs.Entities.{table_type, memory_type, global_type, tag_type, entity_type}
use Rattle.wenc_base.specs.Exports.{core_export_kind as core_kind}
use Rattle.wenc_base.specs.Forms.{flag, name, byte_list, list, option, counted}
use Rattle.wenc_base.specs.Delimited.{pair}
use Rattle.wenc_sections.specs.Pairs.{triple}
use Rattle.wenc_base.specs.Number.{u32, u64, i64, index}
use Rattle.wenc_base.specs.Piece.{Form}
use Rattle.wenc_base.specs.Producers.{producer, producers_field}
use Rattle.wenc_base.specs.Producers.{producers_section}
use Rattle.wenc_base.specs.Types.{abstract_type, heap_type, nullable, reference, val_type}
use Rattle.wenc_canon.specs.Canonicals.{canonical_option, Field, field, fields}
use Rattle.wenc_canon.specs.Canonicals.{canonical}
use Rattle.wenc_parts.specs.Aliases.{outer_kind, alias}
use Rattle.wenc_parts.specs.Exports.{component_export_kind}
use Rattle.wenc_parts.specs.Imports.{type_bounds, type_reference, name_option}
use Rattle.wenc_parts.specs.Imports.{extern_name}
use Rattle.wenc_parts.specs.Instances.{module_argument}
use Rattle.wenc_parts.specs.SectionIds.{section_id}
use Rattle.wenc_parts.specs.Types.{primitive, value_type, result_list}
use Rattle.wenc_sections.specs.Exports.{export_item}
use Rattle.wenc_sections.specs.Imports.{import_item}
use Rattle.wenc_sections.specs.Instances.{core_instance, instance}
use Rattle.wenc_sections.specs.Names.{item_sort, names_section}
use Rattle.wenc_sections.specs.Start.{start_content, start}
use Rattle.wenc_types.specs.ComponentTypes.{def_type}
use Rattle.wenc_types.specs.ComponentTypes.{instance_declaration}
use Rattle.wenc_types.specs.ComponentTypes.{component_declaration}
use Rattle.wenc_types.specs.CoreTypes.{module_declaration, module_type}
use Rattle.wenc_types.specs.CoreTypes.{core_type}
use Rattle.wenc_types.specs.DefinedTypes.{labelled_type, case}
use Rattle.wenc_types.specs.DefinedTypes.{def_val_type, function_type}
use Rattle.wenc_base.specs.Names.{name_association}

-- a form's name
pub data FormName : Type 0 where
  -- ---- numbers and texts
  Flags : FormName
  -- of 32 bits
  Numbers : FormName
  -- of 64 bits
  LongNumbers : FormName
  -- of 64 bits
  SignedNumbers : FormName
  -- of types, written as signed numbers
  Indices : FormName
  Names : FormName
  -- core modules and nested components too
  ByteLists : FormName
  -- ---- core types
  -- of a core module's exports
  CoreKinds : FormName
  AbstractHeapTypes : FormName
  HeapTypes : FormName
  NullableReferences : FormName
  References : FormName
  CoreValueTypes : FormName
  StorageTypes : FormName
  FieldTypes : FormName
  CompositeTypes : FormName
  SubTypes : FormName
  Groups : FormName
  TableTypes : FormName
  MemoryTypes : FormName
  GlobalTypes : FormName
  TagTypes : FormName
  EntityTypes : FormName
  -- ---- parts
  SectionIds : FormName
  PrimitiveTypes : FormName
  ValueTypes : FormName
  ResultLists : FormName
  ExportKinds : FormName
  -- of types that are imported or exported
  Bounds : FormName
  TypeReferences : FormName
  NameOptions : FormName
  -- names of imports and exports, with options
  ExternNames : FormName
  ModuleArguments : FormName
  -- of items of an enclosing component, for aliases
  OuterKinds : FormName
  -- ---- types
  GuardedSubTypes : FormName
  GroupsInComponents : FormName
  ModuleDeclarations : FormName
  ModuleTypes : FormName
  -- in a component
  CoreTypes : FormName
  -- fields of records, and parameters
  LabelledTypes : FormName
  -- of variants
  Cases : FormName
  DefinedTypes : FormName
  FunctionTypes : FormName
  -- all that a component defines
  Types : FormName
  InstanceDeclarations : FormName
  ComponentDeclarations : FormName
  -- ---- items
  Aliases : FormName
  Imports : FormName
  Exports : FormName
  -- an argument of a core module, with its name
  Arguments : FormName
  CoreExports : FormName
  CoreInstances : FormName
  -- an argument of a component, with its name
  ComponentArguments : FormName
  InstanceExports : FormName
  Instances : FormName
  CanonicalOptions : FormName
  -- a field of a canonical function, by its kind
  CanonicalField : (kind : Field) → FormName
  -- its fields, by their kinds
  CanonicalFields : (kinds : List Field) → FormName
  CanonicalFunctions : FormName
  -- a tool and its version, in a field of a producers section
  VersionedTools : FormName
  -- the name of a field, and its tools
  ProducersFields : FormName
  -- an index, and its name in a name map
  NameAssociations : FormName
  -- of named items
  ItemSorts : FormName
  -- ---- sections, after their ids
  CustomSections : FormName
  NameSections : FormName
  ProducersSections : FormName
  -- of a start section, without its size
  StartContents : FormName
  StartSections : FormName
  -- ---- made from other forms
  -- the number of values, then each
  ListsOf : (member : FormName) → FormName
  -- the size of such a list, then the list
  SectionsOf : (member : FormName) → FormName
  -- whether there is a value, then the value
  OptionsOf : (member : FormName) → FormName
  -- one after the other
  PairsOf : (first second : FormName) → FormName

-- a form, and the type of its values
pub record FormRow : Type 1 where
  pub value : Type 0
  pub form : Form value

abbrev of : {A : Type 0} → Form A → FormRow
of {A} form = record { value = A; form = form }

abbrev pub form_row : FormName → FormRow
form_row Flags = of flag
form_row Numbers = of u32
form_row LongNumbers = of u64
form_row SignedNumbers = of i64
form_row Indices = of index
form_row Names = of name
form_row ByteLists = of byte_list
form_row CoreKinds = of core_kind
form_row AbstractHeapTypes = of abstract_type
form_row HeapTypes = of heap_type
form_row NullableReferences = of nullable
form_row References = of reference
form_row CoreValueTypes = of val_type
form_row StorageTypes = of storage_type
form_row FieldTypes = of field_type
form_row CompositeTypes = of composite_type
form_row SubTypes = of sub_type
form_row Groups = of rec_type
form_row TableTypes = of table_type
form_row MemoryTypes = of memory_type
form_row GlobalTypes = of global_type
form_row TagTypes = of tag_type
form_row EntityTypes = of entity_type
form_row SectionIds = of section_id
form_row PrimitiveTypes = of primitive
form_row ValueTypes = of value_type
form_row ResultLists = of result_list
form_row ExportKinds = of component_export_kind
form_row Bounds = of type_bounds
form_row TypeReferences = of type_reference
form_row NameOptions = of name_option
form_row ExternNames = of extern_name
form_row ModuleArguments = of module_argument
form_row OuterKinds = of outer_kind
form_row GuardedSubTypes = of (λ s. standing true (Single s))
form_row GroupsInComponents = of (standing true)
form_row ModuleDeclarations = of module_declaration
form_row ModuleTypes = of module_type
form_row CoreTypes = of core_type
form_row LabelledTypes = of labelled_type
form_row Cases = of case
form_row DefinedTypes = of def_val_type
form_row FunctionTypes = of function_type
form_row Types = of def_type
form_row InstanceDeclarations = of instance_declaration
form_row ComponentDeclarations = of component_declaration
form_row Aliases = of alias
form_row Imports = of import_item
form_row Exports = of export_item
form_row Arguments = of (pair name module_argument)
form_row CoreExports = of (triple name core_kind u32)
form_row CoreInstances = of core_instance
form_row ComponentArguments = of (triple name component_export_kind u32)
form_row InstanceExports = of (triple extern_name component_export_kind u32)
form_row Instances = of instance
form_row CanonicalOptions = of canonical_option
form_row (CanonicalField kind) = of (field kind)
form_row (CanonicalFields kinds) = of (fields kinds)
form_row CanonicalFunctions = of canonical
form_row VersionedTools = of producer
form_row ProducersFields = of producers_field
form_row NameAssociations = of name_association
form_row ItemSorts = of item_sort
form_row CustomSections = of custom
form_row NameSections = of names_section
form_row ProducersSections = of producers_section
form_row StartContents = of start_content
form_row StartSections = of start
form_row (ListsOf member) = of (list (form_row member).form)
form_row (SectionsOf member) = of (counted (form_row member).form)
form_row (OptionsOf member) = of (option (form_row member).form)
form_row (PairsOf first second) = of (pair (form_row first).form (form_row second).form)

-- the type of a form's values
abbrev pub value_of : FormName → Type 0
value_of f = (form_row f).value

-- the form of this name
abbrev pub form_of : (f : FormName) → Form (value_of f)
form_of f = (form_row f).form
