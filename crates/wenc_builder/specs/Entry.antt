-- Items with their debug names, and why one is refused.
use Rattle.std.specs.Prelude.{◌≡◌, ℕ, List, [], ◌∷◌, ◌++◌, ◌+◌, ◌⊎◌, map, Option, Some, None}
use Rattle.std.specs.Prelude.{if◌then◌else◌}
use Rattle.wenc_base.specs.Fault.{count_cause}
use Rattle.wenc_base.specs.Forms.{sized}
use Rattle.wenc_base.specs.Names.{NameAssociation, name_map}
use Rattle.wenc_base.specs.declared.fault.Fault.{Fault}
use Rattle.wenc_base.specs.declared.exports.ExportKind.{ExportKind}
use Rattle.wenc_parts.specs.declared.exports.ComponentExportKind.{ComponentExportKind}
use Rattle.wenc_parts.specs.declared.imports.ComponentTypeRef.{ComponentTypeRef}
use Rattle.wenc_parts.specs.Imports.{ExternName}
use Rattle.wenc_parts.specs.Aliases.{AliasOf, InstanceExport, CoreInstanceExport}
use Rattle.wenc_canon.specs.Canonicals.{Canonical, OfBuiltin, name_of}
use Rattle.wenc_sections.specs.Start.{Start, started}
use Rattle.wenc_sections.specs.Instances.{CoreInstance, Instance}
use Rattle.wenc_types.specs.CoreTypes.{CoreType}
use Rattle.wenc_types.specs.ComponentTypes.{DefType}
use Rattle.wenc_builder.specs.Item.{Item, ModuleItem, CoreInstanceItem, CoreTypeItem, ComponentItem}
use Rattle.wenc_builder.specs.Item.{InstanceItem, AliasItem, TypeItem, CanonItem, StartItem}
use Rattle.wenc_builder.specs.Item.{ImportItem, ExportItem, CustomItem, RawItem}
use Rattle.wenc_builder.specs.Sections.{component, runs}
use Rattle.wenc_sections.specs.Space.{space_eq}
use Rattle.wenc_builder.specs.Space.{Indices, defines, defined_in, next_index}
use Rattle.wenc_sections.specs.declared.space.Space.{Space}

-- an item, with a debug name or none
pub record Entry : Type 0 where
  pub item : Item
  pub name : Option (List ℕ)

abbrev pub entry : Item → Option (List ℕ) → Entry
entry item name = record { item = item; name = name }

-- ---- the entry of each call

-- an import and an export have the debug name that is their name
abbrev pub import_entry : ExternName → ComponentTypeRef → Entry
import_entry name ty = entry (ImportItem (record { name = name; ty = ty })) (Some name.name)

abbrev pub export_entry : ExternName → ComponentExportKind → ℕ → Option ComponentTypeRef → Entry
export_entry name kind index ty =
    entry (ExportItem (record { name = name; kind = kind; index = index; ty = ty }))
    (Some name.name)

abbrev pub alias_entry : Option (List ℕ) → AliasOf → Entry
alias_entry debug_name to = entry (AliasItem to) debug_name

-- it has the debug name that is the name of the export
abbrev pub alias_export_entry : ℕ → List ℕ → ComponentExportKind → Entry
alias_export_entry instance name kind = alias_entry (Some name) (InstanceExport instance kind name)

abbrev pub core_alias_export_entry : Option (List ℕ) → ℕ → List ℕ → ExportKind → Entry
core_alias_export_entry debug_name instance name kind =
    alias_entry debug_name (CoreInstanceExport instance kind name)

abbrev pub module_entry : Option (List ℕ) → List ℕ → Entry
module_entry debug_name bytes = entry (ModuleItem bytes) debug_name

abbrev pub component_entry : Option (List ℕ) → List ℕ → Entry
component_entry debug_name bytes = entry (ComponentItem bytes) debug_name

abbrev pub core_instance_entry : Option (List ℕ) → CoreInstance → Entry
core_instance_entry debug_name instance = entry (CoreInstanceItem instance) debug_name

abbrev pub instance_entry : Option (List ℕ) → Instance → Entry
instance_entry debug_name instance = entry (InstanceItem instance) debug_name

abbrev pub core_type_entry : Option (List ℕ) → CoreType → Entry
core_type_entry debug_name ty = entry (CoreTypeItem ty) debug_name

abbrev pub type_entry : Option (List ℕ) → DefType → Entry
type_entry debug_name ty = entry (TypeItem ty) debug_name

abbrev pub canonical_entry : Option (List ℕ) → Canonical → Entry
canonical_entry debug_name function = entry (CanonItem function) debug_name

-- the debug name of a canonical function: its own, or where it is lifted or lowered this one
abbrev pub canonical_name : Option (List ℕ) → Canonical → Option (List ℕ)
canonical_name debug_name (OfBuiltin i values) = Some (name_of i values)
canonical_name debug_name other = debug_name

-- that of a canonical function as a tree
abbrev pub canonical_tree_entry : Option (List ℕ) → Canonical → Entry
canonical_tree_entry debug_name function =
    entry (CanonItem function) (canonical_name debug_name function)

-- none of these has a name
abbrev pub start_entry : ℕ → List ℕ → ℕ → Entry
start_entry function arguments results = entry (StartItem (started function arguments results)) None

abbrev pub custom_entry : List ℕ → List ℕ → Entry
custom_entry name bytes = entry (CustomItem (record { label = name; bytes = bytes })) None

abbrev pub raw_entry : List ℕ → Entry
raw_entry bytes = entry (RawItem bytes) None

-- it has no name, if it is a start
abbrev pub StartIsNameless : Entry → Type 0
StartIsNameless e = (start : Start) → e.item ≡ StartItem start → e.name ≡ None

-- ---- lists of entries

-- what was added, without its debug names
abbrev pub items : List Entry → List Item
items es = map (λ e. e.item) es

-- index n with this name, or nothing where there is no name
abbrev pub named_as : ℕ → Option (List ℕ) → List NameAssociation
named_as n None = []
named_as n (Some name) = record { index = n; name = name } ∷ []

-- the name of what takes these indices, if they are in space k
abbrev pub named_in : Space → Option Indices → ℕ → Option (List ℕ) → List NameAssociation
named_in k None n name = []
named_in k (Some d) n name = if space_eq d.space k then named_as n name else []

-- the indices and names of the named entries in space k, of which the first has index n
abbrev pub names_from : Space → ℕ → List Entry → List NameAssociation
names_from k n [] = []
names_from k n (e ∷ es) =
    named_in k (defines e.item) n e.name ++ names_from k (n + defined_in k e.item) es

-- the indices and names of all named entries in space k
abbrev pub names : List Entry → Space → List NameAssociation
names es k = names_from k 0 es

-- ---- why an entry is refused

-- the space of these indices has too many items, or names that are too many or too long for a map
abbrev pub IndicesCause : List Entry → Option Indices → Fault → Type 0
IndicesCause es None fault = ⊥
IndicesCause es (Some d) fault =
    count_cause (next_index (items es) d.space) fault
    ⊎ (sized (name_map (names es d.space))).Cause fault

-- why x is refused after these: the component with it can't be encoded, or its space is too large
abbrev pub EntryCause : List Entry → Entry → Fault → Type 0
EntryCause es x fault =
    (component (runs (items (es ++ x ∷ [])))).Cause fault
    ⊎ IndicesCause (es ++ x ∷ []) (defines x.item) fault
