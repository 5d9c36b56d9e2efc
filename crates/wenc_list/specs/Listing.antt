-- The listing of a component, and why there is none (component model, binary format, "Component
-- Definitions").
use Rattle.std.specs.List.{AllByRecursion, flat_map}
use Rattle.std.specs.Prelude.{◌≡◌, ◌⊎◌, ℕ, zero, suc, ◌+◌, ◌<◌, ◌≤◌, List, [], ◌∷◌, ◌++◌, length}
use Rattle.wenc_base.specs.Forms.{name}
use Rattle.wenc_base.specs.Number.{u32}
use Rattle.wenc_base.specs.Piece.{Wide, each}
use Rattle.wenc_builder.specs.Item.{Item, TypeItem}
use Rattle.wenc_builder.specs.Sections.{Section, members, item_of, section_piece, preamble}
use Rattle.wenc_builder.specs.Space.{next_index}
use Rattle.wenc_sections.specs.declared.space.Space.{Space}
use Rattle.wenc_view.specs.Depth.{Front, OpensTypes}
use Rattle.wenc_types.specs.ComponentTypes.{depth}
use Rattle.wenc_list.specs.declared.fault.ListFault.{ListFault}
use Rattle.wenc_list.specs.declared.fault.ListFault.TheVariants as faults
use Rattle.wenc_list.specs.declared.listing.ListedSection.{ListedSection}
use Rattle.wenc_list.specs.Items.{section_view}

-- ---- how deep types nest

-- no deeper than this
abbrev pub HasDepth : ℕ → Item → Type 0
HasDepth limit (TypeItem ty) = depth ty ≤ limit
HasDepth limit other = Unit {0}

-- no item of these sections is deeper than this
abbrev pub AreWithin : ℕ → List Section → Type 0
AreWithin limit = AllByRecursion (λ s. AllByRecursion (HasDepth limit) (members s))

-- ---- sections

-- A section with this id and this content begins here, and the rest follows.
pub record IsFramed (bytes : List ℕ) (id : ℕ) (content rest : List ℕ) : Type 0 where
  pub middle : List ℕ
  pub begins : bytes ≡ id ∷ middle
  pub known : id ≤ 11
  pub sized : (u32 (length content)).Reads Wide middle (content ++ rest)

-- no section begins here, whatever its content: an unknown id, no size, or fewer bytes than that
abbrev pub IsNoFrame : List ℕ → Type 0
IsNoFrame bytes = (id : ℕ) (content rest : List ℕ) → IsFramed bytes id content rest → ⊥

-- the content begins with a name, where it is that of a custom section
abbrev pub IsLabelled : ℕ → List ℕ → Type 0
IsLabelled zero content = (label bytes : List ℕ) × (name label).Reads Wide content bytes
IsLabelled (suc id) content = Unit {0}

-- no section begins here: an unknown id, no size, fewer bytes than that, or a custom section
-- without a name
abbrev pub IsBadSection : List ℕ → Type 0
IsBadSection bytes = (id : ℕ) (content rest : List ℕ) → IsFramed bytes id content rest
    → IsLabelled id content → ⊥

-- a section begins here, whose content isn't that of any section
pub record IsBadItem (bytes : List ℕ) : Type 0 where
  pub id : ℕ
  pub content : List ℕ
  pub rest : List ℕ
  pub framed : IsFramed bytes id content rest
  pub labelled : IsLabelled id content
  pub never : (s : Section) (after : List ℕ) → (section_piece s).Reads Wide bytes after → ⊥

-- a section of types begins here, in which a front reaches a type at depth 101
pub record IsTooDeep (bytes : List ℕ) : Type 0 where
  pub content : List ℕ
  pub rest : List ℕ
  pub framed : IsFramed bytes 7 content rest
  pub reached : Front (item_of 7) (OpensTypes 100) content

-- ---- what is listed

-- this byte comes first
abbrev pub BeginsWith : ℕ → List ℕ → Type 0
BeginsWith byte bytes = (rest : List ℕ) × (bytes ≡ byte ∷ rest)

-- Each section is read at its place, where its id is the first byte, up to its end, one after the
-- other up to the rest; the component has this many bytes.
abbrev pub AreFrom : {A : Type 0} → ℕ → List (ListedSection A) → List ℕ → List ℕ → Type 0
AreFrom all [] bytes rest = bytes ≡ rest
AreFrom all (s ∷ ss) bytes rest =
    (middle : List ℕ) × (section_piece (section_view s)).Reads Wide bytes middle ×
    (all ≡ s.place + length bytes) × (all ≡ s.ends + length middle) × BeginsWith s.id bytes ×
    AreFrom all ss middle rest

-- the number of indices in space k that the items of these sections take
abbrev pub count_of_sections : Space → List Section → ℕ
count_of_sections k ss = next_index (flat_map members ss) k

-- the same for all sections of a component, after its header
abbrev pub ArePlaced : {A : Type 0} → List ℕ → List (ListedSection A) → Type 0
ArePlaced bytes ss =
    (behind : List ℕ) × preamble.Reads Wide bytes behind × AreFrom (length bytes) ss behind []

-- ---- why none is listed

-- no section is read here within depth 100
abbrev pub IsNoneWithin : List ℕ → Type 0
IsNoneWithin bytes = (s : Section) (rest : List ℕ) → (section_piece s).Reads Wide bytes rest
    → AreWithin 100 (s ∷ []) → ⊥

-- the fault has its cause in the section that begins here
abbrev pub IsFaultHere : ℕ → List ℕ → ListFault → Type 0
IsFaultHere here bytes faults.Memory = Unit {0}
IsFaultHere here bytes (faults.NotAComponent place) = ⊥
IsFaultHere here bytes (faults.BadSection place) =
    (place ≡ here) × IsNoneWithin bytes × IsBadSection bytes
IsFaultHere here bytes (faults.BadItem place) =
    (place ≡ here) × IsNoneWithin bytes × IsBadItem bytes
IsFaultHere here bytes (faults.TooDeep place) =
    (place ≡ here) × IsNoneWithin bytes × IsTooDeep bytes

-- Sections are read within depth 100 up to this place; the next one isn't, and P holds of the bytes
-- from there on. The component has this many bytes.
pub record StopsAt (all : ℕ) (bytes : List ℕ) (place : ℕ) (P : List ℕ → Type 0) : Type 0 where
  pub before : List Section
  pub left : List ℕ
  pub read : (each section_piece before).Reads Wide bytes left
  pub within : AreWithin 100 before
  pub is_place : all ≡ place + length left
  pub some_left : 0 < length left
  pub none_within : IsNoneWithin left
  pub cause : P left

-- the fault has its cause, after the header
abbrev pub IsFaultBehind : ℕ → List ℕ → ListFault → Type 0
IsFaultBehind all bytes faults.Memory = Unit {0}
IsFaultBehind all bytes (faults.NotAComponent place) = ⊥
IsFaultBehind all bytes (faults.BadSection place) = StopsAt all bytes place IsBadSection
IsFaultBehind all bytes (faults.BadItem place) = StopsAt all bytes place IsBadItem
IsFaultBehind all bytes (faults.TooDeep place) = StopsAt all bytes place IsTooDeep

-- The bytes begin with no header of a component.
abbrev pub HasNoHeader : List ℕ → Type 0
HasNoHeader bytes = (rest : List ℕ) → preamble.Reads Wide bytes rest → ⊥

-- the fault has its cause
abbrev pub IsFaultOf : List ℕ → ListFault → Type 0
IsFaultOf bytes faults.Memory = Unit {0}
IsFaultOf bytes (faults.NotAComponent place) = (place ≡ 0) × HasNoHeader bytes
IsFaultOf bytes fault =
    (behind : List ℕ) × preamble.Reads Wide bytes behind × IsFaultBehind (length bytes) behind fault

-- a failed allocation; or `TooDeep`, if one of the types of these sections is deeper than 100
abbrev pub IsMemoryOrTooDeep : List Section → ListFault → Type 0
IsMemoryOrTooDeep ss fault =
    (fault ≡ faults.Memory) ⊎
    ((place : ℕ) × (fault ≡ faults.TooDeep place) × (AreWithin 100 ss → ⊥))
