-- One more entry.
use Rattle.std.proofs.Common.{◌≡◌, ℕ, zero, suc, ◌+◌, ◌<◌, List, [], ◌∷◌, ◌++◌, length, Option}
use Rattle.std.proofs.Common.{Some, None, refl, ap, sym, ◌∙◌, inl, inr, subst, append_assoc}
use Rattle.std.proofs.Common.{append-nil, arith, length-append, add_assoc, zero-add, add-zero}
use Rattle.std.proofs.Common.{replicate, get_or}
use Rattle.std.proofs.lemmas.List.{get_or-set_same, get_or-set_other, length-set}
use Rattle.wenc_builder.specs.Prelude.{Entry, Holds, Indices, Item, Namespace, SectionsHold, State}
use Rattle.wenc_builder.specs.Prelude.{defined_in, defines, item, items, named_in, names}
use Rattle.wenc_builder.specs.Prelude.{names_from, namespace_at, namespace_of, namespace_with}
use Rattle.wenc_builder.specs.Prelude.{next_index, no_names, open_of, preamble, runs, settled_in}
use Rattle.wenc_builder.specs.Prelude.{spaces_with, step, with_entry}
use Rattle.wenc_sections.specs.laws.Space.{space_within, same_number, space_decides, space_tells, space_ne}
use Rattle.wenc_builder.specs.laws.Fits.{SectionsFit, HasRoom, sections_fit_more}
use Rattle.wenc_sections.specs.Prelude.{space_number}
use Rattle.wenc_base.specs.Prelude.{NameAssociation, name_association, names_text}
use Rattle.wenc_sections.specs.declared.space.Space.{Space}
use Rattle.wenc_builder.specs.Entry.{named_as}
use Rattle.wenc_builder.specs.Holds.{SpacesHold}
use Rattle.wenc_builder.specs.laws.Runs.{sections_hold_more}

pub items_push : (es : List Entry) (x : Entry) → items (es ++ x ∷ []) ≡ items es ++ x.item ∷ []
items_push [] x = refl
items_push (e ∷ es) x = ap (λ (r : List Item). e.item ∷ r) (items_push es x)

index_push : (k : Space) (es : List Entry) (x : Entry) → next_index (items (es ++ x ∷ [])) k
    ≡ next_index (items es) k + defined_in k x.item
index_push k [] x = omega arith
index_push k (e ∷ es) x = omega (arith, index_push k es x)

names_push : (k : Space) (n : ℕ) (es : List Entry) (x : Entry)
    → names_from k n (es ++ x ∷ []) ≡ names_from k n es ++ named_in k (defines x.item)
    (n + next_index (items es) k) x.name
names_push k n [] x = rw (add-zero n) (append-nil (named_in k (defines x.item) n x.name))
names_push k n (e ∷ es) x =
    rw (names_push k (n + defined_in k e.item) es x, add_assoc n (defined_in k e.item) (next_index (items es) k))
    (sym (append_assoc (named_in k (defines e.item) n e.name)
    (names_from k (n + defined_in k e.item) es)
    (named_in k (defines x.item) (n + (defined_in k e.item + next_index (items es) k)) x.name)))

texts_push : (ns : List NameAssociation) (n : NameAssociation)
    → names_text (ns ++ n ∷ []) ≡ names_text ns ++ (name_association n).text
texts_push [] n = append-nil (name_association n).text
texts_push (m ∷ ns) n = rw (texts_push ns n)
    (sym (append_assoc (name_association m).text (names_text ns) (name_association n).text))

with_its_name : (ns : List NameAssociation) (n number : ℕ) (name : Option (List ℕ))
    → record { count = n + number; named = length (ns ++ named_as n name); names = names_text (ns ++ named_as n name) }
    ≡ namespace_with (record { count = n; named = length ns; names = names_text ns }) number name
with_its_name ns n number None = rw (append-nil ns) refl
with_its_name ns n number (Some name) =
    rw (
      length-append ns (record { index = n; name = name } ∷ []),
      texts_push ns (record { index = n; name = name }),
    ) refl

in_its_space : (k : Space) (es : List Entry) (x : Entry) (d : Indices) → defines x.item ≡ Some d
    → d.space ≡ k → namespace_of (es ++ x ∷ []) k ≡ namespace_with
    (namespace_of es k) d.number x.name
in_its_space k es x d w e =
    rw (
      index_push k es x,
      names_push k 0 es x,
      w,
      (space_decides d.space k).1 e,
      zero-add (next_index (items es) k),
    )
    (with_its_name (names es k) (next_index (items es) k) d.number x.name)

nothing_more : (k : Space) (es : List Entry) (x : Entry) → defined_in k x.item ≡ 0
    → ((n : ℕ) → named_in k (defines x.item) n x.name ≡ [])
    → namespace_of (es ++ x ∷ []) k ≡ namespace_of es k
nothing_more k es x d e =
    rw (
      index_push k es x,
      names_push k 0 es x,
      d,
      e (0 + next_index (items es) k),
      add-zero (next_index (items es) k),
      append-nil (names_from k 0 es),
    ) refl

in_another : (k : Space) (es : List Entry) (x : Entry) (d : Indices) → defines x.item ≡ Some d
    → (d.space ≡ k → ⊥) → namespace_of (es ++ x ∷ []) k ≡ namespace_of es k
in_another k es x d w apart = nothing_more k es x (rw (w, space_ne d.space k apart) refl)
    (λ n. rw (w, space_ne d.space k apart) refl)

not_in_space : (k : Space) (es : List Entry) (x : Entry) → defines x.item ≡ None
    → namespace_of (es ++ x ∷ []) k ≡ namespace_of es k
not_in_space k es x w = nothing_more k es x (rw w refl) (λ n. rw w refl)

spaces_hold_at : (spaces : List Namespace) (es : List Entry) (x : Entry) (o : Option Indices)
    → defines x.item ≡ o → SpacesHold spaces es → SpacesHold (spaces_with spaces o x.name)
    (es ++ x ∷ [])
spaces_hold_at spaces es x None w h = record { all = h.all; each = λ k. h.each k ∙ sym (not_in_space k es x w) }
spaces_hold_at spaces es x (Some d) w h = record {
  all = length-set spaces (space_number d.space) (namespace_with (namespace_at spaces d.space) d.number x.name) ∙ h.all;
  each = λ k. elim (space_tells d.space k) [
    | inl t ↦
        let inside : space_number k < length spaces = omega (arith, h.all, space_within k) in
        rw (
          t.1,
          get_or-set_same spaces (space_number k)
              (namespace_with (namespace_at spaces k) d.number x.name) no_names inside,
          h.each k,
        )
        (sym (in_its_space k es x d w t.1))
    | inr t ↦
        rw (
          get_or-set_other spaces (space_number d.space) (space_number k)
              (namespace_with (namespace_at spaces d.space) d.number x.name) no_names
              (λ q. t.1 (sym (same_number k d.space q))),
          h.each k,
        ) (sym (in_another k es x d w t.1))
  ];
}

pub spaces_hold_more : (spaces : List Namespace) (es : List Entry) (x : Entry)
    → SpacesHold spaces es → SpacesHold (spaces_with spaces (defines x.item) x.name) (es ++ x ∷ [])
spaces_hold_more spaces es x h = spaces_hold_at spaces es x (defines x.item) refl h

pub sections_step : (s : State) (es : List Entry) (x : Entry) → Holds s es
    → SectionsHold (with_entry s.settled x).sections (items (es ++ x ∷ []))
sections_step s es x h = rw (items_push es x) (sections_hold_more s.settled.sections (items es) x.item h.sections)

-- one more entry that fits, whose section isn't too much
pub holds_step : (s : State) (es : List Entry) (x : Entry) → (item x.item).Fits
    → HasRoom (with_entry s.settled x).sections.current → Holds s es
    → Holds (step s x) (es ++ x ∷ [])
holds_step s es x one room h = record {
  finished = refl;
  sections = sections_step s es x h;
  spaces = spaces_hold_more s.settled.spaces es x h.spaces;
  fits = (
    tt,
    subst (λ (xs : List Item). SectionsFit (runs xs)) (sym (items_push es x))
        (sections_fit_more (items es) x.item h.fits.1 one room'),
  );
}
  where
    room' : HasRoom (open_of (runs (items es ++ x.item ∷ [])))
    room' = subst HasRoom ((sections_step s es x h).last ∙ ap
        (λ (xs : List Item). open_of (runs xs)) (items_push es x)) room

pub holds_index : (s : State) (es : List Entry) (k : Space) (n : ℕ) → Holds s es
    → n ≡ (namespace_at s.settled.spaces k).count → n ≡ next_index (items es) k
holds_index s es k n h e = e ∙ ap (λ (x : Namespace). x.count) (h.spaces.each k)

none_of_many : (n k : ℕ) → get_or (replicate n no_names) k no_names ≡ no_names
none_of_many zero k = refl
none_of_many (suc n) zero = refl
none_of_many (suc n) (suc k) = none_of_many n k

pub holds_nothing : Holds (settled_in
    (record {
      sections = record { closed = preamble.text; current = None };
      spaces =
          replicate 13 no_names;
    })) []
holds_nothing = record {
  finished = refl;
  sections = record { bytes = refl; last = refl };
  spaces = record { all = refl; each = λ k. none_of_many 13 (space_number k) };
  fits = (tt, tt);
}
