-- A component that is taken section by section, and a section item by item (component model, binary
-- format, "Component Definitions").
use Rattle.std.specs.List.{AllByRecursion}
use Rattle.std.specs.Prelude.{◌≡◌, ◌⊎◌, ℕ, ◌+◌, ◌-◌, ◌<◌, ◌≤◌, List, [], ◌∷◌, ◌++◌, length}
use Rattle.std.specs.Prelude.{IsTrue, IsFalse, nat_eq, nat_lt, if◌then◌else◌, Result, Ok, Err}
use Rattle.wenc_base.specs.Forms.{name, AreBytes}
use Rattle.wenc_base.specs.Number.{u32}
use Rattle.wenc_base.specs.Piece.{Piece, Form, Wide, EndsWith, only_where, raw, ◌⨾◌, each}
use Rattle.wenc_base.specs.Readers.{Flaw}
use Rattle.wenc_base.specs.reading.Numbers.{read_u32}
use Rattle.wenc_builder.specs.Item.{Item, ModuleItem, ComponentItem, StartItem, CustomItem}
use Rattle.wenc_builder.specs.Sections.{collects, item_of}
use Rattle.wenc_read.specs.Gives.{left_of}
use Rattle.wenc_read.specs.Refusals.{byte_error, expected_at, number_error}
use Rattle.wenc_read.specs.declared.expected.Expected.TheVariants.{Bytes, End, From}
use Rattle.wenc_read.specs.declared.refusal.Refusal.{Refusal}
use Rattle.wenc_read.specs.declared.refusal.NestedRefusal.{NestedRefusal}
use Rattle.wenc_read.specs.declared.refusal.NestedRefusal.TheVariants.{Flat, TooDeep}
use Rattle.wenc_view.specs.Depth.{OpensTypes}
use Rattle.wenc_sections.specs.Start.{start_content}
use Rattle.wenc_list.specs.Listing.{HasDepth, IsFramed, IsLabelled, IsNoFrame}
use Rattle.wenc_list.specs.declared.cursor.SectionItems.{SectionItems}
use Rattle.wenc_list.specs.declared.cursor.SectionRefusal.{SectionRefusal}
use Rattle.wenc_list.specs.declared.cursor.SectionRefusal.TheVariants.{Frame, Count}
use Rattle.wenc_list.specs.declared.fault.ListFault.{ListFault}
use Rattle.wenc_list.specs.declared.fault.ListFault.TheVariants as faults
use Rattle.wenc_list.specs.declared.refusal.ListRefusal.{ListRefusal}
use Rattle.wenc_list.specs.declared.refusal.ListRefusal.TheVariants as refusals

-- ---- items in their sections

-- a piece up to the end of the bytes
abbrev pub to_the_end : Piece → Piece
to_the_end p = record p { Reads = λ mode bytes rest. (rest ≡ []) × p.Reads mode bytes [] }

-- an item as it is in the content of the section with this id
abbrev pub item_in : ℕ → Form Item
item_in id (CustomItem c) =
    only_where (id ≡ 0) (to_the_end (name c.label ⨾ raw AreBytes c.bytes))
item_in id (ModuleItem bytes) = only_where (id ≡ 1) (to_the_end (raw AreBytes bytes))
item_in id (ComponentItem bytes) = only_where (id ≡ 4) (to_the_end (raw AreBytes bytes))
item_in id (StartItem s) = only_where (id ≡ 9) (start_content s)
item_in id other = item_of id other

-- The content of a section with this id has this many items, in these bytes: the section's count,
-- if it collects items, and otherwise one.
abbrev pub Holds : ℕ → List ℕ → ℕ → List ℕ → Type 0
Holds id content count items =
    (IsTrue (collects id) × (u32 count).Reads Wide content items)
    ⊎ (IsFalse (collects id) × (count ≡ 1) × (items ≡ content))

-- ---- what was taken

-- A section begins these bytes, the last ones of a component with `ends` bytes, and the rest
-- follows; none of its items is taken. The bytes end with its items and that rest.
pub record Opens (ends : ℕ) (bytes : List ℕ) (s : SectionItems) (rest : List ℕ) : Type 0 where
  pub content : List ℕ
  pub framed : IsFramed bytes s.id content rest
  pub holds : Holds s.id content s.left s.rest.now
  pub leaves : EndsWith bytes (s.rest.now ++ rest)
  pub is_place : s.place ≡ ends - length bytes
  pub is_end : s.ends ≡ ends - length rest

-- Of a section these items were taken, one after the other, each within depth 100, and this is
-- left, with which the bytes end.
pub record HasTaken (first : SectionItems) (xs : List Item) (left : SectionItems) : Type 0 where
  pub read : (each (item_in first.id) xs).Reads Wide first.rest.now left.rest.now
  pub leaves : EndsWith first.rest.now left.rest.now
  pub within : AllByRecursion (HasDepth 100) xs
  pub counted : first.left ≡ length xs + left.left
  pub same_id : left.id ≡ first.id
  pub same_place : left.place ≡ first.place
  pub same_end : left.ends ≡ first.ends

-- Nothing is left.
abbrev pub IsSpent : SectionItems → Type 0
IsSpent s = (s.left ≡ 0) × (s.rest.now ≡ [])

-- ---- why the next item isn't read

-- no item of the section with this id begins here, at whatever depth
abbrev pub IsNeverItem : ℕ → List ℕ → Type 0
IsNeverItem id bytes = (x : Item) (rest : List ℕ) → (item_in id x).Reads Wide bytes rest → ⊥

-- none does within depth 100
abbrev pub IsNoItem : ℕ → List ℕ → Type 0
IsNoItem id bytes = (x : Item) (rest : List ℕ) → (item_in id x).Reads Wide bytes rest
    → HasDepth 100 x → ⊥

-- The fault has its cause in what is left of the section: a custom section without a name, no item
-- where one is to come, bytes after the last one, or a type at depth 101.
abbrev pub IsFaultIn : SectionItems → ListFault → Type 0
IsFaultIn s faults.Memory = Unit {0}
IsFaultIn s (faults.NotAComponent place) = ⊥
IsFaultIn s (faults.BadSection place) =
    (place ≡ s.place) × (0 < s.left) × (s.id ≡ 0) × (IsLabelled 0 s.rest.now → ⊥)
IsFaultIn s (faults.BadItem place) =
    (place ≡ s.place) ×
    (((0 < s.left) × (s.id ≡ 0 → ⊥) × IsNeverItem s.id s.rest.now)
    ⊎ ((s.left ≡ 0) × (0 < length s.rest.now)))
IsFaultIn s (faults.TooDeep place) =
    (place ≡ s.place) × (0 < s.left) × (s.id ≡ 7) × OpensTypes 100 s.rest.now ×
    IsNoItem s.id s.rest.now

-- ---- what the faults are

-- why the content of a section with this id isn't read
abbrev pub fault_of_content : NestedRefusal → ℕ → ℕ → ListFault
fault_of_content (Flat refusal) id place =
    if nat_eq id 0 then faults.BadSection place else faults.BadItem place
fault_of_content (TooDeep left) id place = faults.TooDeep place

-- why the next of these items isn't read, or what follows the last one
abbrev pub fault_of_items : SectionItems → NestedRefusal → ListFault
fault_of_items s refusal =
    if nat_eq s.left 0 then faults.BadItem s.place else fault_of_content refusal s.id s.place

-- why no section is read at this place
abbrev pub fault_of_section : SectionRefusal → ℕ → ListFault
fault_of_section (Frame refusal) place = faults.BadSection place
fault_of_section (Count section refusal) place = faults.BadItem place

-- why a component isn't listed
abbrev pub fault_of_list : ListRefusal → ListFault
fault_of_list refusals.Memory = faults.Memory
fault_of_list refusals.Header = faults.NotAComponent 0
fault_of_list (refusals.Section place refusal) = fault_of_section refusal place
fault_of_list (refusals.Item count left refusal) = fault_of_items left refusal

-- The refusal has its cause in what is left of the section, and its place in the bytes that are.
-- Where no item is left, that is the first of them.
pub record IsRefusedIn (s : SectionItems) (refusal : NestedRefusal) : Type 0 where
  pub cause : IsFaultIn s (fault_of_items s refusal)
  pub at_end : s.left ≡ 0 → refusal ≡ Flat (expected_at s.rest.now End)
  pub within : left_of refusal ≤ length s.rest.now

-- A section begins these bytes, the last ones of a component with `ends` bytes, and no count of its
-- items begins its content; so none is left.
pub record LacksCount (ends : ℕ) (bytes : List ℕ) (s : SectionItems) : Type 0 where
  pub rest : List ℕ
  pub framed : IsFramed bytes s.id s.rest.now rest
  pub collecting : IsTrue (collects s.id)
  pub never : (n : ℕ) (items : List ℕ) → (u32 n).Reads Wide s.rest.now items → ⊥
  pub none_left : s.left ≡ 0
  pub is_place : s.place ≡ ends - length bytes
  pub is_end : s.ends ≡ ends - length rest

-- why so many bytes aren't there, if there is a number of them
abbrev pub size_error : Refusal → Result (ℕ × List ℕ) Flaw → Refusal
size_error error (Ok x) = expected_at x.1 (Bytes x.0)
size_error error (Err flaw) = error

-- Why no section begins the bytes: there is none, an unknown id, no size, or fewer bytes than that.
abbrev pub frame_error : List ℕ → Refusal
frame_error [] = byte_error []
frame_error (id ∷ bytes) = if nat_lt 11 id then expected_at (id ∷ bytes) (From 0 11)
    else size_error (number_error 128 32 bytes 4 bytes) (read_u32 bytes)

-- why no section is next: none begins here, or the one that is named lacks its count
abbrev pub IsUnopened : ℕ → List ℕ → SectionRefusal → Type 0
IsUnopened ends bytes (Frame refusal) = IsNoFrame bytes × (refusal ≡ frame_error bytes)
IsUnopened ends bytes (Count section refusal) =
    LacksCount ends bytes section ×
    (refusal ≡ number_error 128 32 section.rest.now 4 section.rest.now)

-- the same of the fault, in place of the refusal
abbrev pub IsFaultOfOpening : ℕ → List ℕ → ListFault → Type 0
IsFaultOfOpening ends bytes (faults.BadSection place) = IsNoFrame bytes
IsFaultOfOpening ends bytes (faults.BadItem place) =
    (section : SectionItems) × LacksCount ends bytes section
IsFaultOfOpening ends bytes other = ⊥

-- ---- where the bytes can't be read on

-- The place is in these bytes, in which no section begins, or in the content that has no count.
abbrev pub IsPlacedIn : List ℕ → SectionRefusal → Type 0
IsPlacedIn bytes (Frame refusal) = refusal.left ≤ length bytes
IsPlacedIn bytes (Count section refusal) = refusal.left ≤ length section.rest.now

-- What is left of a section with `count` items in a component with these bytes, where the refusal
-- has its cause: the items before were taken, one after the other.
pub record IsLeftOf (bytes : List ℕ) (count : ℕ) (left : SectionItems) (refusal : NestedRefusal)
    : Type 0 where
  pub here : List ℕ
  pub leaves : EndsWith bytes here
  pub first : SectionItems
  pub rest : List ℕ
  pub opens : Opens (length bytes) here first rest
  pub xs : List Item
  pub taken : HasTaken first xs left
  pub are : count ≡ first.left
  pub refused : IsRefusedIn left refusal

-- where the bytes of a component can't be read on
abbrev pub StopsInside : List ℕ → ListRefusal → Type 0
StopsInside bytes refusals.Memory = Unit {0}
StopsInside bytes refusals.Header = Unit {0}
StopsInside bytes (refusals.Section place refusal) =
    (here : List ℕ) × EndsWith bytes here × (place ≡ length bytes - length here) ×
    IsPlacedIn here refusal × IsUnopened (length bytes) here refusal
StopsInside bytes (refusals.Item count left refusal) = IsLeftOf bytes count left refusal
