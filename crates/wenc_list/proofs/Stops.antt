-- Where a listing stops.
use Rattle.std.proofs.Common.{◌≡◌, ℕ, List, [], ◌∷◌, ◌++◌, length, refl}
use Rattle.wenc_base.specs.Prelude.{EndsWith, Wide, each, ends_on}
use Rattle.wenc_builder.specs.Prelude.{Section, section_piece}
use Rattle.wenc_list.specs.Prelude.{IsNextSectionOf, Opens, SectionItems, Sections, StopsIn}
use Rattle.wenc_list.specs.Prelude.{StopsInside}
use Rattle.wenc_list.specs.declared.refusal.ListRefusal.{ListRefusal}
use Rattle.wenc_list.specs.declared.refusal.ListRefusal.TheVariants as refusals
use Rattle.wenc_list.proofs.SectionLaws.{section_framed}
use Rattle.wenc_list.proofs.Taken.{frame_leaves}

one_leaves : (s : Section) (bytes rest : List ℕ) → (section_piece s).Reads Wide bytes rest → EndsWith bytes rest
one_leaves s bytes rest r =
    let f = section_framed s bytes rest r in
    ends_on bytes (f.content ++ rest) rest (frame_leaves bytes f.id f.content rest f.framed) (f.content, refl)

pub sections_leave : (ss : List Section) (bytes rest : List ℕ) → (each section_piece ss).Reads Wide bytes rest → EndsWith bytes rest
sections_leave [] bytes rest r = ([], r)
sections_leave (s ∷ ss) bytes rest r = ends_on bytes r.0 rest (one_leaves s bytes r.0 r.1) (sections_leave ss r.0 rest r.2)

pub section_stops : (bytes here rest : List ℕ) (ends : ℕ) (first : SectionItems) (e : ListRefusal) → ends ≡ length bytes → EndsWith bytes here
    → Opens ends here first rest → StopsIn first e → StopsInside bytes e
section_stops bytes here rest ends first refusals.Memory is_end leaves o h = tt
section_stops bytes here rest ends first refusals.Header is_end leaves o h = absurd h
section_stops bytes here rest ends first (refusals.Section place refusal) is_end leaves o h = absurd h
section_stops bytes here rest ends first (refusals.Item count items refusal) is_end leaves o h = record {
  here = here;
  leaves = leaves;
  first = first;
  rest = rest;
  opens = rw is_end at o;
  xs = h.1.0;
  taken = h.1.1;
  are = h.0;
  refused = h.2;
}

pub next_stops : (bytes : List ℕ) (left : Sections) (e : ListRefusal) → left.ends ≡ length bytes → EndsWith bytes left.rest.now
    → IsNextSectionOf left e → StopsInside bytes e
next_stops bytes left refusals.Memory is_end leaves h = absurd h
next_stops bytes left refusals.Header is_end leaves h = absurd h
next_stops bytes left (refusals.Section place refusal) is_end leaves h = (left.rest.now, leaves, rw is_end at h.0, h.1, rw is_end at h.2)
next_stops bytes left (refusals.Item count items refusal) is_end leaves h = absurd h
