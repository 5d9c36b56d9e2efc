-- How a builder's bytes lie in its holder: it keeps the closed bytes and, where a section is open,
-- a gap of 11 bytes; its members are the items of that section. While an item that opens another
-- section is being written, it keeps that section too, and a gap after it, and the item is its
-- only member.
use Rattle.std.specs.Prelude.{◌≡◌, ℕ, List, [], ◌∷◌, ◌++◌, ◌+◌, ◌-◌, ◌<◌, ◌≤◌, ◌^◌, length, take}
use Rattle.std.specs.Prelude.{drop, Option, Some, None, Result, OnOk, OnErr, IfErr}
use Rattle.wenc_base.specs.Number.{unsigned_text, number_size}
use Rattle.wenc_base.specs.Holder.{HolderState, content_size}
use Rattle.wenc_base.specs.declared.holder.openings.Opening.{Opening}
use Rattle.wenc_base.specs.Fault.{IsWarranted, NoCause}
use Rattle.wenc_base.specs.Piece.{Piece}
use Rattle.wenc_base.specs.declared.fault.Fault.{Fault}
use Rattle.wenc_parts.specs.declared.component.ComponentSectionId.TheVariants as ids
use Rattle.wenc_parts.specs.SectionIds.{section_number}
use Rattle.wenc_parts.specs.Component.{preamble}
use Rattle.wenc_builder.specs.Builder.{OpenSection, SectionsState, entered, with_section}
use Rattle.wenc_builder.specs.Builder.{open_text, NewItem, new_item}
use Rattle.wenc_sections.specs.declared.space.Space.{Space}
use Rattle.wenc_builder.specs.declared.builder.kind.Kind.{Kind}
use Rattle.wenc_builder.specs.declared.builder.kind.Kind.TheVariants.{CoreInstance, CoreType}
use Rattle.wenc_builder.specs.declared.builder.kind.Kind.TheVariants.{Instance, Alias}
use Rattle.wenc_builder.specs.declared.builder.kind.Kind.TheVariants.{«Type» as TypeKind}
use Rattle.wenc_builder.specs.declared.builder.kind.Kind.TheVariants.{CanonicalFunction, Import}
use Rattle.wenc_builder.specs.declared.builder.kind.Kind.TheVariants.{Export}
use Rattle.wenc_builder.specs.declared.builder.earlier.Earlier.{Earlier}

-- the id of the kind's sections
abbrev pub kind_id : Kind → ℕ
kind_id CoreInstance = section_number ids.CoreInstance
kind_id CoreType = section_number ids.CoreType
kind_id Instance = section_number ids.Instance
kind_id Alias = section_number ids.Alias
kind_id TypeKind = section_number ids.«Type»
kind_id CanonicalFunction = section_number ids.CanonicalFunction
kind_id Import = section_number ids.Import
kind_id Export = section_number ids.Export

-- an item of this kind, which takes one index in this space
abbrev pub new_item_of : Kind → Space → Option (List ℕ) → List ℕ → NewItem
new_item_of kind space name text = new_item (kind_id kind) space name text

-- a section's id, the size of what follows the size, and its count
abbrev pub section_head : ℕ → ℕ → ℕ → List ℕ
section_head id count size = id ∷ (unsigned_text size ++ unsigned_text count)

-- that of a section that may be open, whose items have this many bytes
abbrev pub open_head : Option Kind → ℕ → ℕ → List ℕ
open_head None count body = []
open_head (Some k) count body = section_head (kind_id k) count (number_size count + body)

-- ---- the state of a buffer

-- an item that is being written: its section's id, and its text so far
pub record Writing : Type 0 where
  pub id : ℕ
  pub text : List ℕ

-- settled sections, and the item that is being written after them
pub record Buffered : Type 0 where
  pub settled : SectionsState
  pub writing : Option Writing

abbrev pub sections_with : SectionsState → Option Writing → SectionsState
sections_with s None = s
sections_with s (Some w) = entered s w.id w.text

-- the sections, as they are with that item
abbrev pub buffered_content : Buffered → SectionsState
buffered_content b = sections_with b.settled b.writing

-- the header alone
abbrev pub nothing_buffered : Buffered
nothing_buffered =
    record { settled = record { closed = preamble.text; current = None }; writing = None }

abbrev pub buffer_begun : Buffered → ℕ → Buffered
buffer_begun b id = record { settled = b.settled; writing = Some (record { id = id; text = [] }) }

-- the open section, with an item of this id begun in it
abbrev pub section_begun : Buffered → ℕ → Option OpenSection
section_begun b id = (buffered_content (buffer_begun b id)).current

abbrev pub writing_longer : Option Writing → List ℕ → Option Writing
writing_longer None text = None
writing_longer (Some w) text = Some (record { id = w.id; text = w.text ++ text })

abbrev pub buffer_appended : Buffered → List ℕ → Buffered
buffer_appended b text = record { settled = b.settled; writing = writing_longer b.writing text }

-- the open section, with more bytes of the item
abbrev pub section_appended : Buffered → List ℕ → Option OpenSection
section_appended b text = (buffered_content (buffer_appended b text)).current

abbrev pub buffer_ended : Buffered → Buffered
buffer_ended b = record { settled = buffered_content b; writing = None }

abbrev pub buffer_given_up : Buffered → Buffered
buffer_given_up b = record { settled = b.settled; writing = None }

-- something separate after all sections
abbrev pub buffer_with : Buffered → List ℕ → Buffered
buffer_with b text = record { settled = with_section b.settled text; writing = None }

-- A call writes this piece separately after all sections, or is refused for the piece's own cause
-- and changes nothing.
pub record AppendsSection (old new : Buffered) (outcome : Result (Unit {0}) Fault)
    (p : Piece) : Type 0 where
  pub ok : OnOk outcome (new ≡ buffer_with old p.text)
  pub fits : OnOk outcome p.Fits
  pub free : OnOk outcome (NoCause p.Cause)
  pub err : OnErr outcome (new ≡ old)
  pub warranted : IfErr outcome (IsWarranted p.Cause)

abbrev pub SectionFits : Option OpenSection → Type 0
SectionFits None = Unit {0}
SectionFits (Some o) = content_size o.count (length o.body) < 2 ^ 32

-- an item of the section with this id isn't one of the open section
abbrev pub OpensAnother : Option OpenSection → ℕ → Type 0
OpensAnother None id = Unit {0}
OpensAnother (Some o) id = o.id ≡ id → ⊥

-- ---- the layout

-- this many members of this kind, with these bytes
abbrev pub open_view : Option Kind → ℕ → List ℕ → Option OpenSection
open_view None count items = None
open_view (Some k) count items = Some (record { id = kind_id k; count = count; body = items })

abbrev pub id_of : Option Kind → ℕ
id_of None = 0
id_of (Some k) = kind_id k

-- members after closed bytes, the last of them being written or none
abbrev pub member_view : List ℕ → Option Kind → ℕ → List ℕ → Option Opening → Buffered
member_view closed kind count body None =
    record {
      settled = record { closed = closed; current = open_view kind count body };
      writing = None;
    }
member_view closed kind count body (Some o) = record {
  settled =
      record { closed = closed; current = open_view kind (count - 1) (take o.member_start body) };
  writing = Some (record { id = id_of kind; text = drop o.member_start body });
}

-- the section before an item that opens another one
abbrev pub earlier_view : List ℕ → Earlier → Option OpenSection
earlier_view kept e = open_view e.kind e.count (drop (e.closed_len + 11) (take e.items_end kept))

-- closed bytes, and the members; or the earlier section and one member
abbrev pub buffer_view : HolderState → ℕ → Option Kind → Option Earlier → Buffered
buffer_view h closed_len kind None =
    member_view (take closed_len h.kept) kind h.count h.body h.opening
buffer_view h closed_len kind (Some e) = record {
  settled = record { closed = take e.closed_len h.kept; current = earlier_view h.kept e };
  writing = Some (record { id = id_of kind; text = h.body });
}

-- a gap and its items are between these two indices, if there is a section
abbrev pub SectionIsIn : Option Kind → ℕ → ℕ → Type 0
SectionIsIn None closed_len items_end = closed_len ≡ items_end
SectionIsIn (Some k) closed_len items_end = closed_len + 11 ≤ items_end

-- the kept bytes end with the gap, where there is a section; else there are no members
abbrev pub MembersAreIn : Option Kind → ℕ → HolderState → Type 0
MembersAreIn None closed_len h = (length h.kept ≡ closed_len) × (h.body ≡ []) × (h.opening ≡ None)
MembersAreIn (Some k) closed_len h = length h.kept ≡ closed_len + 11

-- a member that is being written is one of them
abbrev pub BegunIsIn : Option Opening → ℕ → ℕ → Type 0
BegunIsIn None count size = Unit {0}
BegunIsIn (Some o) count size = (o.member_start ≤ size) × (1 ≤ count)

-- the section of an item that is written after a gap is another one
abbrev pub KindIsApart : Option Kind → Earlier → Type 0
KindIsApart None e = ⊥
KindIsApart (Some k) e = OpensAnother (open_view e.kind e.count []) (kind_id k)

-- an item after a gap, and the earlier section before that
pub record IsApart (h : HolderState) (kind : Option Kind) (e : Earlier) : Type 0 where
  pub first : h ≡ record {
    kept = h.kept;
    count = 1;
    body = h.body;
    opening = Some (record { member_start = 0; lead_end = 0 });
  }
  pub gap : length h.kept ≡ e.items_end + 11
  pub section : SectionIsIn e.kind e.closed_len e.items_end
  pub another : KindIsApart kind e
  pub counted : number_size e.count < 2 ^ 32
  pub fits : SectionFits (earlier_view h.kept e)

abbrev pub EarlierIsIn : HolderState → ℕ → Option Kind → Option Earlier → Type 0
EarlierIsIn h closed_len kind None =
    MembersAreIn kind closed_len h × BegunIsIn h.opening h.count (length h.body)
EarlierIsIn h closed_len kind (Some e) = IsApart h kind e

pub record IsLaidOut (h : HolderState) (closed_len : ℕ) (kind : Option Kind)
    (earlier : Option Earlier) : Type 0 where
  pub indices : EarlierIsIn h closed_len kind earlier

-- ---- an item after a gap

-- how many bytes are kept before the items of a section
abbrev pub kept_before : Option Kind → ℕ → ℕ
kept_before None closed_len = closed_len
kept_before (Some k) closed_len = closed_len + 11

-- the closed bytes with the earlier section after them
abbrev pub closed_with : List ℕ → Earlier → List ℕ
closed_with kept e = take e.closed_len kept ++ open_text (earlier_view kept e)

-- the kept bytes with that section closed, and after it still the bytes that were there
abbrev pub kept_with : List ℕ → Earlier → List ℕ
kept_with kept e = closed_with kept e ++ drop e.items_end kept
