-- What the section of names takes.
use Rattle.std.proofs.Common.{ℕ, ◌+◌, ◌≤◌, ◌<◌, ◌^◌, List, [], ◌∷◌, ◌++◌, length, Result, Ok, Err, OnOk, refl, inl, inr, arith, length-append}
use Rattle.wenc_base.proofs.Groups.{groups_some}
use Rattle.wenc_base.specs.Prelude.{Contains, HolderState, NameAssociation, Serves, byte_list}
use Rattle.wenc_base.specs.Prelude.{custom, held_names, name, name_association, name_map}
use Rattle.wenc_base.specs.Prelude.{names_text, size_cause, size_free, sized_in_order}
use Rattle.wenc_base.specs.Prelude.{unsigned_text, ◌▸◌}
use Rattle.wenc_base.specs.declared.fault.Fault.{Fault}
use Rattle.wenc_base.specs.Number.{groups}
use Rattle.wenc_base.specs.declared.fault.Fault.TheVariants.{Memory, TooMany, TooLarge, Unfinished}
use Rattle.wenc_sections.specs.Prelude.{AppendsNames, AppendsSubsection, ItemNames, RoomCause}
use Rattle.wenc_sections.specs.Prelude.{Space, held_subsection, item_sort, names_label}
use Rattle.wenc_sections.specs.Prelude.{names_section, subsection}
use Rattle.wenc_sections.specs.Names.{names_custom}
use Rattle.wenc_sections.specs.laws.Names.{held_subsection_is}

-- ---- no room

size_among : (m n : ℕ) → m ≤ n → (fault : Fault) → size_cause m fault → size_cause n fault
size_among m n le (Memory e) c = c
size_among m n le TooMany c = c
size_among m n le TooLarge c = omega (arith, le, c)
size_among m n le Unfinished c = c

-- what has too many bytes after its size has no room
no_room_behind : (before content : List ℕ) (id : ℕ) (fault : Fault) → size_cause (length content) fault
    → RoomCause before (id ∷ (unsigned_text (length content) ++ content)) fault
no_room_behind before content id (Memory e) c = absurd c
no_room_behind before content id TooMany c = absurd c
no_room_behind before content id TooLarge c =
    (refl, omega (arith, c, length-append before (id ∷ (unsigned_text (length content) ++ content)), length-append (unsigned_text (length content)) content))
no_room_behind before content id Unfinished c = absurd c

-- bytes
pub no_room : (before : List ℕ) (id : ℕ) (content : List ℕ) (fault : Fault) → (id ▸ byte_list content).Cause fault
    → RoomCause before (id ▸ byte_list content).text fault
no_room before id content fault c = elim c [ inl large ↦ no_room_behind before content id fault large | inr none ↦ absurd none ]

-- and a name, which may be too long by itself
pub no_room_for_name : (before text : List ℕ) (fault : Fault) → (0x00 ▸ sized_in_order (name text)).Cause fault
    → RoomCause before (0x00 ▸ sized_in_order (name text)).text fault
no_room_for_name before text fault c = no_room_behind before (name text).text 0x00 fault (elim c [
  | inl own ↦ elim own [
    | inl large ↦ size_among (length text) (length (name text).text)
        (omega (arith, length-append (unsigned_text (length text)) text)) fault large
    | inr none ↦ absurd none
  ]
  | inr p ↦ p.1
])

-- ---- names that are held

-- no name is empty, with its index
some_bytes : (ns : List NameAssociation) → length ns ≤ length (names_text ns)
some_bytes [] = omega arith
some_bytes (n ∷ ns) = omega (
  arith,
  some_bytes ns,
  groups_some 128 9 n.index,
  length-append (name_association n).text (names_text ns),
  length-append (unsigned_text n.index) (name n.name).text,
)

names_fit : (space : Space) (held : HolderState) (ns : List NameAssociation) → Contains name_association held ns
    → (held_subsection space held).Fits → (subsection (ItemNames space ns)).Fits
names_fit space held ns holds h =
    let size : length ((item_sort space).text ++ (name_map ns).text) < 2 ^ 32 = rw (held_names held ns holds) at h.0 in
    let few : length ns < 2 ^ 32 = omega (
      arith,
      size,
      some_bytes ns,
      length-append (item_sort space).text (name_map ns).text,
      length-append (unsigned_text (length ns)) (names_text ns),
    ) in
    (size, (h.1.0, (few, holds.fit)))

pub names_appended : (space : Space) (held : HolderState) (old new : List ℕ) (outcome : Result (Unit {0}) Fault)
    → AppendsSubsection (held_subsection space held) old new outcome → AppendsNames space held old new outcome
names_appended space held old new outcome a = record {
  bytes = a;
  names = λ ns holds. record {
    appended = rw (held_subsection_is space held ns holds) at a.appended;
    fits = fits outcome ns holds a.fits;
  };
}
  where
    fits : (outcome : Result (Unit {0}) Fault) (ns : List NameAssociation) → Contains name_association held ns
        → OnOk outcome (held_subsection space held).Fits → OnOk outcome (subsection (ItemNames space ns)).Fits
    fits (Ok u) ns holds h = names_fit space held ns holds h
    fits (Err fault) ns holds h = tt

-- ---- the section

-- what is kept in room is never refused
pub section_serves : (bytes : List ℕ) → 15 + length bytes < 2 ^ 32 → Serves (custom (names_custom bytes)) (names_section bytes)
unfolding groups
section_serves bytes small = record { text = refl; fits = λ h. h; among = none; free = λ none fault c. c }
  where
    none : (fault : Fault) → (custom (names_custom bytes)).Cause fault → ⊥
    none fault c = elim c [
      | inl large ↦ size_free _ (omega (arith, small, length-append (name names_label).text bytes)) fault large
      | inr own ↦ elim own [ inl label ↦ elim label [ inl long ↦ size_free 14 (omega arith) fault long | inr never ↦ never ] | inr never ↦ never ]
    ]
