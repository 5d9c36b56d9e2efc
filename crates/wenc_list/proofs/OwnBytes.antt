-- The bytes of a section are read as it, whatever follows. So they can be cut out.
use Rattle.std.proofs.Common.{◌≡◌, ℕ, zero, suc, ◌+◌, ◌-◌, ◌<◌, ◌≤◌, List, [], ◌∷◌, ◌++◌, length, take, drop, map, Some, None, refl, sym}
use Rattle.std.proofs.Common.{ap, subst, ◌∙◌, arith, append_assoc, length-append, inr}
use Rattle.std.proofs.lemmas.List.{take_at}
use Rattle.std.proofs.lemmas.Option.{same_Some}
use Rattle.std.specs.Prelude.{remove, slice_get, slice_range}
use Rattle.wenc_base.specs.Prelude.{EndsWith, ReadsGroups, Wide, more, u32_groups}
use Rattle.wenc_base.specs.Number.{last}
use Rattle.wenc_builder.specs.Prelude.{Reading, Section, members, preamble, section_piece, sections}
use Rattle.wenc_list.specs.Prelude.{AreFrom, ArePlaced, IsFramed, ListedSection, section_view}
use Rattle.wenc_list.proofs.Listed.{section_shorter, from_all}
use Rattle.wenc_list.proofs.SectionLaws.{section_framed, section_reads}
use Rattle.wenc_list.proofs.Taken.{at_place}

-- ---- the header

-- the bytes of a header
abbrev pub header : List ℕ
header = 0x00 ∷ 0x61 ∷ 0x73 ∷ 0x6d ∷ 0x0d ∷ 0x00 ∷ 0x01 ∷ 0x00 ∷ []

pub header_is : (bytes rest : List ℕ) → preamble.Reads Wide bytes rest → bytes ≡ header ++ rest
header_is bytes rest r = rw (r.1, r.2.1, r.2.2.1, r.2.2.2.1, r.2.2.2.2.1, r.2.2.2.2.2.1, r.2.2.2.2.2.2.1, r.2.2.2.2.2.2.2) refl

pub header_leaves : (bytes rest : List ℕ) → preamble.Reads Wide bytes rest → EndsWith bytes rest
header_leaves bytes rest r = (header, header_is bytes rest r)

-- ---- a section

groups_own : (room n : ℕ) (bytes rest : List ℕ) → ReadsGroups 128 room n bytes rest
    → (own : List ℕ) × (bytes ≡ own ++ rest) × ((other : List ℕ) → ReadsGroups 128 room n (own ++ other) other)
groups_own room n bytes rest (last lt) = (n ∷ [], refl, λ other. last lt)
groups_own _ n _ rest (more {room = room} {b = b} {high = high} {bytes = bytes} low byte sum r) =
    let e = groups_own room high bytes rest r in
    (b ∷ e.0, ap (λ (t : List ℕ). b ∷ t) e.1, λ other. more low byte sum (e.2 other))

frame_own : (bytes : List ℕ) (id : ℕ) (content rest : List ℕ) → IsFramed bytes id content rest
    → (own : List ℕ) × (bytes ≡ own ++ rest) × ((other : List ℕ) → IsFramed (own ++ other) id content other)
frame_own bytes id content rest f =
    let e = groups_own 4 (length content) f.middle (content ++ rest) (u32_groups Wide (length content) f.middle (content ++ rest) f.sized) in (
      id ∷ (e.0 ++ content),
      f.begins ∙ ap (λ (t : List ℕ). id ∷ t) (e.1 ∙ sym (append_assoc e.0 content rest)),
      (λ other. record {
        middle = (e.0 ++ content) ++ other;
        begins = refl;
        known = f.known;
        sized = (f.sized.0, inr (tt, rw (append_assoc e.0 content other) (e.2 (content ++ other))));
      }),
    )

section_own : (s : Section) (bytes rest : List ℕ) → (section_piece s).Reads Wide bytes rest
    → (own : List ℕ) × (bytes ≡ own ++ rest) × ((other : List ℕ) → (section_piece s).Reads Wide (own ++ other) other)
section_own s bytes rest r =
    let f = section_framed s bytes rest r in
    let e = frame_own bytes f.id f.content rest f.framed in (
      e.0,
      e.1,
      λ other. subst (λ (t : Section). (section_piece t).Reads Wide (e.0 ++ other) other) f.is
          (section_reads f.id (members s) (e.0 ++ other) f.content other (e.2 other) f.fills),
    )

-- ---- a section among others

-- the bytes before it, its own, and those after it
record Parts {A : Type 0} (all : ℕ) (ss : List (ListedSection A)) (i : ℕ) (s : ListedSection A) (bytes : List ℕ) : Type 0 where
  before : List ℕ
  own : List ℕ
  after : List ℕ
  are : bytes ≡ before ++ (own ++ after)
  is_place : all ≡ s.place + length (own ++ after)
  is_end : all ≡ s.ends + length after
  some : 0 < length own
  anywhere : (rest : List ℕ) → (section_piece (section_view s)).Reads Wide (own ++ rest) rest
  others : (sections (remove (map section_view ss) i)).Reads Wide (before ++ after) []

first_parts : {A : Type 0} (all : ℕ) (s : ListedSection A) (ss : List (ListedSection A)) (bytes : List ℕ) → AreFrom all (s ∷ ss) bytes []
    → Parts all (s ∷ ss) 0 s bytes
first_parts all s ss bytes f =
    let e = section_own (section_view s) bytes f.0 f.1 in
    record {
      before = [];
      own = e.0;
      after = f.0;
      are = e.1;
      is_place = f.2 ∙ ap (λ (t : List ℕ). s.place + length t) e.1;
      is_end = f.3;
      some = omega (arith, section_shorter (section_view s) bytes f.0 f.1, ap length e.1, length-append e.0 f.0);
      anywhere = e.2;
      others = from_all all ss f.0 f.5;
    }

none_is_some : {A : Type 0} (s : A) → None ≡ Some s → ⊥
none_is_some s e = absurd cc

parts_of : {A : Type 0} (all : ℕ) (ss : List (ListedSection A)) (i : ℕ) (s : ListedSection A) (bytes : List ℕ) → AreFrom all ss bytes []
    → slice_get ss i ≡ Some s → Parts all ss i s bytes
parts_of all [] i s bytes f e = absurd (none_is_some s e)
parts_of {A} all (t ∷ ss) zero s bytes f e = subst (λ (u : ListedSection A). Parts all (t ∷ ss) 0 u bytes) (same_Some t s e) (first_parts all t ss bytes f)
parts_of all (t ∷ ss) (suc i) s bytes f e =
    let p = parts_of all ss i s f.0 f.5 e in
    let first = section_own (section_view t) bytes f.0 f.1 in
    record {
      before = first.0 ++ p.before;
      own = p.own;
      after = p.after;
      are = first.1 ∙ ap (λ (b : List ℕ). first.0 ++ b) p.are ∙ sym (append_assoc first.0 p.before (p.own ++ p.after));
      is_place = p.is_place;
      is_end = p.is_end;
      some = p.some;
      anywhere = p.anywhere;
      others = (p.before ++ p.after, rw (append_assoc first.0 p.before p.after) (first.2 (p.before ++ p.after)), p.others);
    }

-- ---- a section of a component

header_reads : (rest : List ℕ) → preamble.Reads Wide (header ++ rest) rest
header_reads rest = (_, refl, (_, refl, (_, refl, (_, refl, (_, refl, (_, refl, (_, refl, refl)))))))

module _ {A : Type 0} (bytes : List ℕ) (ss : List (ListedSection A)) (i : ℕ) (s : ListedSection A) where
  all_parts : (p : ArePlaced bytes ss) (o : Parts (length bytes) ss i s p.0) → bytes ≡ (header ++ o.before) ++ (o.own ++ o.after)
  all_parts p o = header_is bytes p.0 p.1 ∙ ap (λ (t : List ℕ). header ++ t) o.are

  pub own_inside : ArePlaced bytes ss → slice_get ss i ≡ Some s → (s.place < s.ends) × (s.ends ≤ length bytes)
  own_inside p e =
      let o = parts_of (length bytes) ss i s p.0 p.2 e in
      (omega (arith, o.is_place, o.is_end, o.some, length-append o.own o.after), omega (arith, o.is_end))

  pub own_anywhere : ArePlaced bytes ss → slice_get ss i ≡ Some s → (rest : List ℕ)
      → (section_piece (section_view s)).Reads Wide (slice_range bytes s.place s.ends ++ rest) rest
  own_anywhere p e rest =
      let o = parts_of (length bytes) ss i s p.0 p.2 e in
      let from : drop s.place bytes ≡ o.own ++ o.after = at_place bytes (o.own ++ o.after) s.place (header ++ o.before, all_parts p o) o.is_place in
      let long : length o.own ≡ s.ends - s.place = omega (arith, o.is_place, o.is_end, length-append o.own o.after) in
      let is : slice_range bytes s.place s.ends ≡ o.own = ap (λ (t : List ℕ). take (s.ends - s.place) t) from ∙ take_at o.own o.after (s.ends - s.place) long in
      rw is (o.anywhere rest)

  pub others_left : ArePlaced bytes ss → slice_get ss i ≡ Some s → Reading Wide (take s.place bytes ++ drop s.ends bytes) (remove (map section_view ss) i)
  others_left p e =
      let o = parts_of (length bytes) ss i s p.0 p.2 e in
      let parts = all_parts p o in
      let front = header ++ o.before in
      let long : length front ≡ s.place = omega (arith, o.is_place, ap length parts, length-append front (o.own ++ o.after)) in
      let up_to : take s.place bytes ≡ front = ap (λ (t : List ℕ). take s.place t) parts ∙ take_at front (o.own ++ o.after) s.place long in
      let from : drop s.ends bytes ≡ o.after = at_place bytes o.after s.ends (front ++ o.own, parts ∙ sym (append_assoc front o.own o.after)) o.is_end in
      rw (up_to, from) (o.before ++ o.after, header_reads (o.before ++ o.after), o.others)
