-- Index spaces: which one an item defines in, and the index that it gets (component model,
-- explainer, "Index Spaces").
use Rattle.std.specs.Option.{option_map}
use Rattle.std.specs.Prelude.{◌≡◌, ℕ, ◌+◌, List, [], ◌∷◌, Option, Some, None, if◌then◌else◌}
use Rattle.wenc_sections.specs.declared.space.Space.{Space}
use Rattle.wenc_sections.specs.declared.space.Space.TheVariants.{CoreModules, CoreFuncs}
use Rattle.wenc_sections.specs.declared.space.Space.TheVariants.{CoreTypes, CoreInstances}
use Rattle.wenc_sections.specs.declared.space.Space.TheVariants.{Funcs, Instances, Values}
use Rattle.wenc_sections.specs.declared.space.Space.TheVariants.{Components, Types}
use Rattle.wenc_sections.specs.Space.{space_eq, kind_space, alias_space}
use Rattle.wenc_parts.specs.Imports.{kind_of}
use Rattle.wenc_canon.specs.Canonicals.{Canonical, Lift}
use Rattle.wenc_builder.specs.Item.{Item, ModuleItem, CoreInstanceItem, CoreTypeItem, ComponentItem}
use Rattle.wenc_builder.specs.Item.{InstanceItem, AliasItem, TypeItem, CanonItem, StartItem}
use Rattle.wenc_builder.specs.Item.{ImportItem, ExportItem}

-- a function that is lifted is one of the component, and any other is a core one
abbrev pub canonical_space : Canonical → Space
canonical_space (Lift function options ty) = Funcs
canonical_space other = CoreFuncs

-- this many indices in this space
pub record Indices : Type 0 where
  pub space : Space
  pub number : ℕ

abbrev pub indices_in : Space → ℕ → Indices
indices_in s number = record { space = s; number = number }

abbrev pub some_in : Space → ℕ → Option Indices
some_in s number = Some (record { space = s; number = number })

-- the indices that an item takes, where it takes any
abbrev pub defines : Item → Option Indices
defines (ModuleItem bytes) = some_in CoreModules 1
defines (CoreInstanceItem instance) = some_in CoreInstances 1
defines (CoreTypeItem ty) = some_in CoreTypes 1
defines (ComponentItem bytes) = some_in Components 1
defines (InstanceItem instance) = some_in Instances 1
defines (AliasItem to) = some_in (alias_space to) 1
defines (TypeItem ty) = some_in Types 1
defines (CanonItem function) = some_in (canonical_space function) 1
defines (StartItem start) = some_in Values start.results
defines (ImportItem import) = some_in (kind_space (kind_of import.ty)) 1
defines (ExportItem export) = some_in (kind_space export.kind) 1
defines other = None

-- how many of these indices are in space k
abbrev pub number_in : Space → Option Indices → ℕ
number_in k None = 0
number_in k (Some d) = if space_eq d.space k then d.number else 0

-- how many an item takes in space k
abbrev pub defined_in : Space → Item → ℕ
defined_in k x = number_in k (defines x)

-- how many the items take in space k: the index there of what comes next
abbrev pub next_index : List Item → Space → ℕ
next_index [] k = 0
next_index (x ∷ xs) k = defined_in k x + next_index xs k

-- This is the first of these indices, for an item that comes next.
abbrev pub IsIndexAt : List Item → Option Indices → ℕ → Type 0
IsIndexAt xs None i = ⊥
IsIndexAt xs (Some d) i = i ≡ next_index xs d.space

-- This is the first index of this item, if it comes next.
abbrev pub IsIndexOf : List Item → Item → ℕ → Type 0
IsIndexOf xs x i = IsIndexAt xs (defines x) i

-- the first index of an item that comes next, if it takes any
abbrev pub index_of : List Item → Item → Option ℕ
index_of xs x = option_map (λ d. next_index xs d.space) (defines x)
