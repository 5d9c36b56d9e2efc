-- Components: items cut into sections, and the sections' texts (component model, binary format,
-- "Component Definitions").
use Rattle.std.specs.Prelude.{◌≡◌, ℕ, ◌∷◌, [], List, Option, Some, None, Bool, IsTrue, nat_eq}
use Rattle.std.specs.Prelude.{if◌then◌else◌}
use Rattle.std.specs.List.{list_any, AllByRecursion}
use Rattle.wenc_base.specs.Piece.{Spelling, Piece, Form, ◌▸◌, only_where, nothing, ◌⨾◌}
use Rattle.wenc_base.specs.Forms.{counted}
use Rattle.wenc_parts.specs.declared.component.ComponentSectionId.TheVariants.{CoreInstance}
use Rattle.wenc_parts.specs.declared.component.ComponentSectionId.TheVariants.{CoreType, Instance}
use Rattle.wenc_parts.specs.declared.component.ComponentSectionId.TheVariants.{Alias, «Type»}
use Rattle.wenc_parts.specs.declared.component.ComponentSectionId.TheVariants.{CanonicalFunction}
use Rattle.wenc_parts.specs.declared.component.ComponentSectionId.TheVariants.{Import, Export}
use Rattle.wenc_parts.specs.SectionIds.{section_number}
pub use Rattle.wenc_parts.specs.Component.{preamble}
use Rattle.wenc_builder.specs.Item.{Item, collected, item, HasNoRaw}

-- neighbours of one collected kind, with their section's id; or an item that is a section of its
-- own
pub data Section : Type 0 where
  Run : (id : ℕ) (items : List Item) → Section
  Alone : (item : Item) → Section

-- the items of a section
abbrev pub members : Section → List Item
members (Run id xs) = xs
members (Alone x) = x ∷ []

-- an item put in front of sections
abbrev pub joined : Option ℕ → Item → List Section → List Section
joined None x ss = Alone x ∷ ss
joined (Some id) x (Run other ys ∷ ss) =
    if nat_eq id other then Run other (x ∷ ys) ∷ ss else (Run id (x ∷ []) ∷ Run other ys ∷ ss)
joined (Some id) x ss = Run id (x ∷ []) ∷ ss

-- items cut into sections: neighbours of one collected kind share one
abbrev pub runs : List Item → List Section
runs [] = []
runs (x ∷ xs) = joined (collected x) x (runs xs)

-- no item of the sections is raw
abbrev pub SectionsHaveNoRaw : List Section → Type 0
SectionsHaveNoRaw = AllByRecursion (λ s. HasNoRaw (members s))

-- ---- texts

-- The ids of the sections that collect items. The others are those of custom sections, core
-- modules, components and starts.
abbrev pub collects : ℕ → Bool
collects id =
    list_any (λ kind. nat_eq id (section_number kind)) (CoreInstance ∷ CoreType ∷ Instance ∷
    Alias ∷ «Type» ∷ CanonicalFunction ∷ Import ∷ Export ∷ [])

-- an item of the kind that the section with this id collects
abbrev pub item_of : ℕ → Form Item
item_of id x = only_where (collected x ≡ Some id) (item x)

-- a section: its id, then its size, the number of its items and these; or the item that is one
abbrev pub section_piece : Form Section
section_piece (Run id xs) = only_where (IsTrue (collects id)) (id ▸ counted (item_of id) xs)
section_piece (Alone x) = only_where (collected x ≡ None) (item x)

-- sections one after the other, and then the end
abbrev pub sections : List Section → Piece
sections [] = nothing
sections (s ∷ ss) = section_piece s ⨾ sections ss

-- the preamble and the sections
abbrev pub component : List Section → Piece
component ss = preamble ⨾ sections ss

-- The bytes are a component with these sections, and nothing else.
abbrev pub Reading : Spelling → List ℕ → List Section → Type 0
Reading mode bytes ss = (component ss).Reads mode bytes []

-- the bytes of the component with these items
abbrev pub whole : List Item → List ℕ
whole xs = (component (runs xs)).text

-- Each section has the items that it collects, and nothing is past the format's limits.
abbrev pub AreEncodable : List Section → Type 0
AreEncodable ss = (component ss).Fits

-- The sections into which the items are cut can be encoded.
abbrev pub IsEncodable : List Item → Type 0
IsEncodable xs = AreEncodable (runs xs)
