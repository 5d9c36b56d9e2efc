-- What a section says of the bytes, and what a list of sections says.
use Rattle.std.proofs.Common.{◌≡◌, ℕ, ◌+◌, ◌<◌, ◌≤◌, List, [], ◌∷◌, ◌++◌, length, map, drop, Err, refl, sym, ap, subst, ◌∙◌, arith, length-append}
use Rattle.std.specs.List.{AllByRecursion}
use Rattle.wenc_base.specs.Prelude.{Bad, ReadsGroups, Wide, each, more, u32_groups}
use Rattle.wenc_base.specs.Number.{last}
use Rattle.wenc_builder.specs.Prelude.{Section, members, preamble, section_piece, sections}
use Rattle.wenc_list.specs.Prelude.{AreFrom, AreWithin, HasDepth, IsFaultBehind, IsFaultHere}
use Rattle.wenc_list.specs.Prelude.{IsFaultOfOpening, IsFramed, IsUnopened, ListFault, ListedSection}
use Rattle.wenc_list.specs.Prelude.{Opens, SectionItems, StopsAt, TakesAll, fault_of_section}
use Rattle.wenc_list.specs.Prelude.{item_section, item_view, read_frame, section_view}
use Rattle.wenc_list.specs.Listing.{BeginsWith}
use Rattle.wenc_list.specs.declared.cursor.SectionRefusal.{SectionRefusal}
use Rattle.wenc_list.specs.declared.cursor.SectionRefusal.TheVariants.{Frame, Count}
use Rattle.wenc_list.specs.declared.fault.ListFault.TheVariants as faults
use Rattle.wenc_list.proofs.SectionLaws.{frame_finds, section_framed, same_frame, not_both}
use Rattle.wenc_list.proofs.Taken.{filled_once, taken_read, taken_within}

-- ---- what stands against a section

pub never_framed : (bytes : List ℕ) (id : ℕ) (content rest : List ℕ) → read_frame bytes ≡ Err Bad → IsFramed bytes id content rest → ⊥
never_framed bytes id content rest e f = not_both (read_frame bytes) ((id, content), rest) (frame_finds bytes id content rest f) e

pub no_frame : (place : ℕ) (bytes : List ℕ) → read_frame bytes ≡ Err Bad → IsFaultHere place bytes (faults.BadSection place)
no_frame place bytes e = (
  refl,
  (λ s rest r w. (let f = section_framed s bytes rest r in never_framed bytes f.id f.content rest e f.framed)),
  (λ id content rest f l. never_framed bytes id content rest e f),
)

-- why no section is opened, in place of the refusal
pub opening_fault : (ends place : ℕ) (bytes : List ℕ) (refusal : SectionRefusal) → IsUnopened ends bytes refusal
    → IsFaultOfOpening ends bytes (fault_of_section refusal place)
opening_fault ends place bytes (Frame refusal) h = h.0
opening_fault ends place bytes (Count section refusal) h = (section, h.0)

-- ---- sections, one after the other

groups_shorter : (room n : ℕ) (bytes rest : List ℕ) → ReadsGroups 128 room n bytes rest → length rest < length bytes
groups_shorter room n bytes rest (last lt) = omega arith
groups_shorter _ n _ rest (more {room = room} {high = high} {bytes = bytes} low byte sum r) = omega (arith, groups_shorter room high bytes rest r)

pub section_shorter : (s : Section) (bytes rest : List ℕ) → (section_piece s).Reads Wide bytes rest → length rest < length bytes
section_shorter s bytes rest r =
    let f = (section_framed s bytes rest r).framed in
    omega (
      arith,
      groups_shorter 4 _ f.middle _ (u32_groups Wide _ f.middle _ f.sized),
      length-append (section_framed s bytes rest r).content rest,
      ap length f.begins,
    )

-- each of them takes a byte
pub from_few : {A : Type 0} (all : ℕ) (ss : List (ListedSection A)) (bytes rest : List ℕ) → AreFrom all ss bytes rest → length ss ≤ length bytes
from_few all [] bytes rest f = omega arith
from_few all (s ∷ ss) bytes rest f = omega (arith, section_shorter (section_view s) bytes f.0 f.1, from_few all ss f.0 rest f.5)

-- one section more
pub from_more : {A : Type 0} (all : ℕ) (ss : List (ListedSection A)) (s : ListedSection A) (bytes middle rest : List ℕ)
    → AreFrom all ss bytes middle → (section_piece (section_view s)).Reads Wide middle rest → (all ≡ s.place + length middle)
    → (all ≡ s.ends + length rest) → BeginsWith s.id middle → AreFrom all (ss ++ s ∷ []) bytes rest
from_more all [] s bytes middle rest f r p e b = (rest, rw (sym f) at r, rw (sym f) at p, e, rw (sym f) at b, refl)
from_more all (t ∷ ss) s bytes middle rest f r p e b = (f.0, f.1, f.2, f.3, f.4, from_more all ss s f.0 middle rest f.5 r p e b)

pub within_more : (ss : List Section) (s : Section) → AreWithin 100 ss → AreWithin 100 (s ∷ []) → AreWithin 100 (ss ++ s ∷ [])
within_more [] s a b = b
within_more (t ∷ ss) s a b = (a.0, within_more ss s a.1 b)

pub from_each : {A : Type 0} (all : ℕ) (ss : List (ListedSection A)) (bytes rest : List ℕ) → AreFrom all ss bytes rest
    → (each section_piece (map section_view ss)).Reads Wide bytes rest
from_each all [] bytes rest f = f
from_each all (s ∷ ss) bytes rest f = (f.0, f.1, from_each all ss f.0 rest f.5)

pub from_all : {A : Type 0} (all : ℕ) (ss : List (ListedSection A)) (bytes : List ℕ) → AreFrom all ss bytes []
    → (sections (map section_view ss)).Reads Wide bytes []
from_all all [] bytes f = f
from_all all (s ∷ ss) bytes f = (f.0, f.1, from_all all ss f.0 f.5)

-- a fault of the next section is one of them all
pub stops_here : (all place : ℕ) (before : List Section) (bytes left : List ℕ) (fault : ListFault)
    → (each section_piece before).Reads Wide bytes left → AreWithin 100 before → (all ≡ place + length left) → 0 < length left
    → IsFaultHere place left fault → IsFaultBehind all bytes fault
stops_here all place before bytes left faults.Memory r w p some f = tt
stops_here all place before bytes left (faults.NotAComponent at_) r w p some f = absurd f
stops_here all place before bytes left (faults.BadSection at_) r w p some f =
    record { before = before; left = left; read = r; within = w; is_place = rw f.0 p; some_left = some; none_within = f.1; cause = f.2 }
stops_here all place before bytes left (faults.BadItem at_) r w p some f =
    record { before = before; left = left; read = r; within = w; is_place = rw f.0 p; some_left = some; none_within = f.1; cause = f.2 }
stops_here all place before bytes left (faults.TooDeep at_) r w p some f =
    record { before = before; left = left; read = r; within = w; is_place = rw f.0 p; some_left = some; none_within = f.1; cause = f.2 }

-- ---- a section that was listed

module _ {A : Type 0} where
  pub listed_read : (ends : ℕ) (bytes rest : List ℕ) (from : SectionItems) (s : ListedSection A) → Opens ends bytes from rest
      → TakesAll from (map item_view s.items.items) → s.id ≡ from.id → (section_piece (section_view s)).Reads Wide bytes rest
  listed_read ends bytes rest from s o t e = subst (λ (id : ℕ). (section_piece (item_section id (map item_view s.items.items))).Reads Wide
      bytes rest) (sym e) (taken_read ends bytes rest from (map item_view s.items.items) t.left o t.taken t.spent)

  pub listed_within : (from : SectionItems) (s : ListedSection A) → TakesAll from (map item_view s.items.items) → AreWithin 100 (section_view s ∷ [])
  listed_within from s t = taken_within s.id (map item_view s.items.items) t.taken.within

  pub listed_begins : (ends : ℕ) (bytes rest : List ℕ) (from : SectionItems) (s : ListedSection A) → Opens ends bytes from rest
      → s.id ≡ from.id → BeginsWith s.id bytes
  listed_begins ends bytes rest from s o e = (o.framed.middle, rw (sym e) at o.framed.begins)

pub some_opens : (ends : ℕ) (bytes rest : List ℕ) (from : SectionItems) → Opens ends bytes from rest → 0 < length bytes
some_opens ends bytes rest from o = omega (arith, ap length o.framed.begins)

-- ---- one reading

-- two sections that are read here leave the same rest
same_rest : (s t : Section) (bytes rest after : List ℕ) → (section_piece s).Reads Wide bytes rest → (section_piece t).Reads Wide bytes after → rest ≡ after
same_rest s t bytes rest after r q =
    let f = section_framed s bytes rest r in
    let g = section_framed t bytes after q in
    (same_frame bytes f.id g.id f.content g.content rest after (frame_finds bytes f.id f.content rest f.framed) g.framed).rest_is

nothing_read : (s : Section) (rest : List ℕ) → (section_piece s).Reads Wide [] rest → ⊥
nothing_read s rest r = absurd (omega (arith, section_shorter s [] rest r))

-- where sections are read to the end, of each of which P holds, one more follows wherever some of
-- them were read
pub goes_past : (P : Section → Type 0) (before ss : List Section) (bytes left : List ℕ) → (each section_piece before).Reads Wide bytes left
    → (sections ss).Reads Wide bytes [] → AllByRecursion P ss → 0 < length left
    → (s : Section) × (rest : List ℕ) × (section_piece s).Reads Wide left rest × P s
goes_past P [] [] bytes left b a w some = absurd (omega (arith, ap length b, ap length a))
goes_past P [] (s ∷ ss) bytes left b a w some = (s, a.0, rw b at a.1, w.0)
goes_past P (t ∷ ts) [] bytes left b a w some = absurd (nothing_read t b.0 (rw a at b.1))
goes_past P (t ∷ ts) (s ∷ ss) bytes left b a w some = goes_past P ts ss b.0 left b.2 (rw (same_rest s t bytes a.0 b.0 a.1 b.1) at a.2) w.1 some

stopped : (all : ℕ) (bytes : List ℕ) (place : ℕ) (P : List ℕ → Type 0) → StopsAt all bytes place P → (ss : List Section)
    → (sections ss).Reads Wide bytes [] → AreWithin 100 ss → ⊥
stopped all bytes place P f ss r w = let next = goes_past (λ s. AllByRecursion (HasDepth 100) (members s)) f.before ss bytes f.left f.read r
    w f.some_left in f.none_within next.0 next.1 next.2 (next.3, tt)

-- where all is read within the depth, only memory can be wanting
pub only_memory : (all : ℕ) (bytes : List ℕ) (fault : ListFault) → IsFaultBehind all bytes fault → (ss : List Section)
    → (sections ss).Reads Wide bytes [] → AreWithin 100 ss → fault ≡ faults.Memory
only_memory all bytes faults.Memory f ss r w = refl
only_memory all bytes (faults.NotAComponent place) f ss r w = absurd f
only_memory all bytes (faults.BadSection place) f ss r w = absurd (stopped all bytes place _ f ss r w)
only_memory all bytes (faults.BadItem place) f ss r w = absurd (stopped all bytes place _ f ss r w)
only_memory all bytes (faults.TooDeep place) f ss r w = absurd (stopped all bytes place _ f ss r w)

same_section : (s t : Section) (bytes rest after : List ℕ) → (section_piece s).Reads Wide bytes rest
    → (section_piece t).Reads Wide bytes after → AreWithin 100 (s ∷ []) → s ≡ t
same_section s t bytes rest after r q w =
    let f = section_framed s bytes rest r in
    let g = section_framed t bytes after q in
    let same = same_frame bytes f.id g.id f.content g.content rest after (frame_finds bytes f.id f.content rest f.framed) g.framed in
    let items : members s ≡ members t = filled_once f.id (members s) (members t) f.content f.fills w.0 (rw (same.id_is, same.content_is) g.fills) in
    sym f.is ∙ rw (same.id_is, items) g.is

pub same_sections : (ss ts : List Section) (bytes : List ℕ) → (sections ss).Reads Wide bytes [] → (sections ts).Reads Wide bytes []
    → AreWithin 100 ss → AreWithin 100 ts → ss ≡ ts
same_sections [] [] bytes a b v w = refl
same_sections [] (t ∷ ts) bytes a b v w = absurd (nothing_read t b.0 (rw a at b.1))
same_sections (s ∷ ss) [] bytes a b v w = absurd (nothing_read s a.0 (rw b at a.1))
same_sections (s ∷ ss) (t ∷ ts) bytes a b v w =
    let first = same_section s t bytes a.0 b.0 a.1 b.1 (v.0, tt) in
    let others = same_sections ss ts b.0 (rw (same_rest s t bytes a.0 b.0 a.1 b.1) at a.2) b.2 v.1 w.1 in
    rw (first, others) refl

-- ---- headers

-- what is after a header is after its eight bytes
behind_it : (bytes rest : List ℕ) → preamble.Reads Wide bytes rest → drop 8 bytes ≡ rest
behind_it bytes rest r = rw (r.1, r.2.1, r.2.2.1, r.2.2.2.1, r.2.2.2.2.1, r.2.2.2.2.2.1, r.2.2.2.2.2.2.1, r.2.2.2.2.2.2.2) refl

pub same_behind : (bytes rest after : List ℕ) → preamble.Reads Wide bytes rest → preamble.Reads Wide bytes after → rest ≡ after
same_behind bytes rest after r q = sym (behind_it bytes rest r) ∙ behind_it bytes after q
