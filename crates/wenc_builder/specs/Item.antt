-- Items: what the calls of a builder add to a component.
use Rattle.std.specs.Prelude.{ℕ, List, ◌∷◌, Option, Some, None}
use Rattle.std.specs.List.{AllByRecursion}
use Rattle.wenc_base.specs.Custom.{Custom, custom}
use Rattle.wenc_base.specs.Forms.{byte_list}
use Rattle.wenc_base.specs.Piece.{Piece, Form, ◌▸◌, verbatim}
use Rattle.wenc_parts.specs.declared.component.ComponentSectionId.TheVariants as ids
use Rattle.wenc_parts.specs.SectionIds.{section_number}
use Rattle.wenc_parts.specs.Aliases.{AliasOf, alias}
use Rattle.wenc_types.specs.CoreTypes.{CoreType, core_type}
use Rattle.wenc_types.specs.ComponentTypes.{DefType, def_type}
use Rattle.wenc_canon.specs.Canonicals.{Canonical, canonical}
use Rattle.wenc_sections.specs.Instances.{CoreInstance, core_instance, Instance, instance}
use Rattle.wenc_sections.specs.Imports.{Import, import_item}
use Rattle.wenc_sections.specs.Exports.{Export, export_item}
use Rattle.wenc_sections.specs.Start.{Start, start}

-- an item of each kind, with all that it is made of
pub data Item : Type 0 where
  ModuleItem : (bytes : List ℕ) → Item
  CoreInstanceItem : (instance : CoreInstance) → Item
  CoreTypeItem : (ty : CoreType) → Item
  ComponentItem : (bytes : List ℕ) → Item
  InstanceItem : (instance : Instance) → Item
  AliasItem : (to : AliasOf) → Item
  TypeItem : (ty : DefType) → Item
  CanonItem : (function : Canonical) → Item
  StartItem : (start : Start) → Item
  ImportItem : (import : Import) → Item
  ExportItem : (export : Export) → Item
  CustomItem : (custom : Custom) → Item
  -- a custom section whose bytes are its caller's
  RawItem : (bytes : List ℕ) → Item

-- The id of the section that collects items of this kind; None where each item is a section of its
-- own.
abbrev pub collected : Item → Option ℕ
collected (CoreInstanceItem i) = Some (section_number ids.CoreInstance)
collected (CoreTypeItem t) = Some (section_number ids.CoreType)
collected (InstanceItem i) = Some (section_number ids.Instance)
collected (AliasItem to) = Some (section_number ids.Alias)
collected (TypeItem t) = Some (section_number ids.«Type»)
collected (CanonItem f) = Some (section_number ids.CanonicalFunction)
collected (ImportItem i) = Some (section_number ids.Import)
collected (ExportItem e) = Some (section_number ids.Export)
collected other = None

-- bytes that are never read
abbrev pub unread : List ℕ → Piece
unread bytes = record (verbatim bytes) { Reads = λ mode all rest. ⊥ }

-- an item as it is in its section or, where it is one, as that section
abbrev pub item : Form Item
item (ModuleItem bytes) = section_number ids.CoreModule ▸ byte_list bytes
item (CoreInstanceItem i) = core_instance i
item (CoreTypeItem t) = core_type t
item (ComponentItem bytes) = section_number ids.Component ▸ byte_list bytes
item (InstanceItem i) = instance i
item (AliasItem to) = alias to
item (TypeItem t) = def_type t
item (CanonItem f) = canonical f
item (StartItem s) = section_number ids.Start ▸ start s
item (ImportItem i) = import_item i
item (ExportItem e) = export_item e
item (CustomItem c) = section_number ids.CoreCustom ▸ custom c
item (RawItem bytes) = unread (section_number ids.CoreCustom ∷ bytes)

-- the item is not a raw one
abbrev pub IsNoRaw : Item → Type 0
IsNoRaw (RawItem bytes) = ⊥
IsNoRaw other = Unit {0}

-- no item of the list is raw
abbrev pub HasNoRaw : List Item → Type 0
HasNoRaw = AllByRecursion IsNoRaw
