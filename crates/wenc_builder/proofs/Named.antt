-- The names so far, and their section.
use Rattle.std.proofs.Common.{◌≡◌, ◌⊎◌, ℕ, zero, suc, ◌+◌, ◌<◌, ◌≤◌, ◌^◌, inl, inr, List, [], ◌∷◌, ◌++◌, length, length-append, map, take}
use Rattle.std.proofs.Common.{get_or, nat_eq, true, false, is_none, None, Result, Ok, Err, refl, sym, ap, ◌∙◌, subst, arith}
use Rattle.std.proofs.Math.Numerals.{add-one}
use Rattle.std.proofs.Math.Seq.{take-suc}
use Rattle.std.proofs.lemmas.Bool.Decides.{eqb_tells}
use Rattle.std.proofs.lemmas.Grind.{flat_map-append}
use Rattle.std.proofs.lemmas.List.Folds.{flat_map-map}
use Rattle.std.specs.List.{flat_map}
use Rattle.std.specs.Option.{MatchOption}
use Rattle.std.specs.Result.{OnOk}
use Rattle.wenc_base.specs.Prelude.{AreBytes, HolderState, NameAssociation, NoCause, Piece, Serves}
use Rattle.wenc_base.specs.Prelude.{each, held_text, holding, in_order, name as name_form}
use Rattle.wenc_base.specs.Prelude.{names_text, size_cause, sized_in_order, unsigned_text, ◌▸◌}
use Rattle.wenc_base.specs.declared.fault.Fault.TheVariants.{Memory, TooMany, TooLarge, Unfinished}
use Rattle.wenc_sections.specs.Prelude.{ItemNames, Subsection, item_sort, names_label, subsection}
use Rattle.wenc_base.specs.declared.fault.Fault.{Fault}
use Rattle.wenc_sections.specs.declared.space.Space.{Space}
use Rattle.wenc_sections.specs.Names.{subsections_text, item_names}
use Rattle.wenc_sections.specs.declared.space.Space.TheVariants as spaces
use Rattle.wenc_builder.specs.Prelude.{AddsNames, AddsUnindexedSection, Agree, AppendsSection}
use Rattle.wenc_builder.specs.Prelude.{Buffered, CustomItem, EntersWithoutIndex, Entry, Holds}
use Rattle.wenc_builder.specs.Prelude.{IsItemText, Spaced, State, builder_is_finished, builder_view}
use Rattle.wenc_builder.specs.Prelude.{by_space, custom_entry, item, named_entry, names, names_held}
use Rattle.wenc_builder.specs.Prelude.{namespace_at, none_named, space_names, with_bytes}
use Rattle.wenc_builder.specs.DebugNames.{named_spaces, name_subsections, kept_names}
use Rattle.wenc_base.proofs.Bytes.{last_below}
use Rattle.wenc_builder.proofs.OwnSections.{stands_as, stood_nowhere}
use Rattle.wenc_builder.proofs.Entered.{without_index_enters}
use Rattle.wenc_builder.proofs.Texts.{plain_serves}
use Rattle.wenc_builder.proofs.Viewed.{finished_is}

-- the subsections, one after the other
abbrev all_names : List (Space × HolderState) → List ℕ
all_names ps = (each space_names ps).text

-- ---- whether there are any

pub none_next : {N : Type 0} (seen : N → Space × HolderState) (ns : List N) (n : N) → none_named (map seen ns) ≡ true
    → nat_eq (seen n).1.count 0 ≡ true → none_named (map seen (ns ++ n ∷ [])) ≡ true
none_next seen [] n h e = rw e refl
none_next seen (m ∷ ns) n h e = elim (eqb_tells (seen m).1.count 0) [ inl t ↦ rw t.0 (none_next seen ns n (rw t.0 at h) e) | inr t ↦ let f = rw t.0 at h in cc ]

pub none_at : {N : Type 0} (seen : N → Space × HolderState) (ns : List N) (i : ℕ) (n : N) → none_named (map seen (take i ns)) ≡ true
    → i < length ns → n ≡ get_or ns i n → nat_eq (seen n).1.count 0 ≡ true → none_named (map seen (take (i + 1) ns)) ≡ true
none_at seen ns i n h lt is e =
    let one : take (i + 1) ns ≡ take i ns ++ n ∷ [] = rw (add-one i, take-suc ns i n lt) (ap (λ u. take i ns ++ u ∷ []) (sym is)) in
    rw one (none_next seen (take i ns) n h e)

pub some_at : {N : Type 0} (seen : N → Space × HolderState) (ns : List N) (i : ℕ) (n : N) → i < length ns → n ≡ get_or ns i n
    → nat_eq (seen n).1.count 0 ≡ false → none_named (map seen ns) ≡ false
some_at seen [] i n lt is e = absurd (omega arith)
some_at seen (m ∷ ns) zero n lt is e = rw (← is, e) refl
some_at seen (m ∷ ns) (suc i) n lt is e = elim (eqb_tells (seen m).1.count 0) [ inl t ↦ rw t.0 (some_at seen ns i n (omega arith) is e) | inr t ↦ rw t.0 refl ]

-- ---- the text of names that are kept

abbrev kept : List NameAssociation → HolderState
kept ns = holding [] (length ns) (names_text ns)

abbrev kept_at : Space × List NameAssociation → Space × HolderState
kept_at p = (p.0, kept p.1)

one_text : (space : Space) (ns : List NameAssociation) → (space_names (space, kept ns)).text ≡ subsections_text (item_names space ns)
one_text space [] = refl
one_text space (n ∷ ns) = elim (eqb_tells (length (n ∷ ns)) 0) [
  | inl t ↦ absurd (omega (arith, t.1))
  | inr t ↦ rw t.0 (sym (one (subsection (ItemNames space (n ∷ ns))).text))
]
  where
    one : (t : List ℕ) → t ++ [] ≡ t
    one [] = refl
    one (x ∷ xs) = ap (λ (r : List ℕ). x ∷ r) (one xs)

-- the subsections of names that are given in a list
abbrev subsections_of : List (Space × List NameAssociation) → List Subsection
subsections_of ps = flat_map (λ p. item_names p.0 p.1) ps

texts : (ps : List (Space × List NameAssociation)) → all_names (map kept_at ps) ≡ subsections_text (subsections_of ps)
texts [] = refl
texts (p ∷ ps) = rw (one_text p.0 p.1, texts ps) (sym (flat_map-append (λ (s : Subsection). (subsection s).text) (item_names p.0 p.1) (subsections_of ps)))

none_text : (ps : List (Space × List NameAssociation)) → none_named (map kept_at ps) ≡ true → subsections_of ps ≡ []
none_text [] h = refl
none_text ((space, []) ∷ ps) h = none_text ps h
none_text ((space, n ∷ ns) ∷ ps) h = elim (eqb_tells (length (n ∷ ns)) 0) [ inl t ↦ absurd (omega (arith, t.1)) | inr t ↦ let f = rw t.0 at h in cc ]

some_text : (ps : List (Space × HolderState)) → none_named ps ≡ false → all_names ps ≡ [] → ⊥
some_text [] h e = cc
some_text (p ∷ ps) h e = elim (eqb_tells p.1.count 0) [ inl t ↦ some_text ps (rw t.0 at h) (rw t.0 at e) | inr t ↦ let f = rw t.0 at e in cc ]

-- what a builder keeps is what it holds
same_by_space : {A : Type 0} (f g : Space → A) → ((s : Space) → f s ≡ g s) → (ss : List Space)
    → map {B = Space × A} (λ s. (s, f s)) ss ≡ map {B = Space × A} (λ s. (s, g s)) ss
same_by_space f g same [] = refl
same_by_space f g same (s ∷ ss) = rw (same s, same_by_space f g same ss) refl

kept_is : (old : State) (es : List Entry) → Holds old es → by_space (λ k. names_held (namespace_at old.settled.spaces k)) ≡ map kept_at (by_space (names es))
kept_is old es h = same_by_space (λ k. names_held (namespace_at old.settled.spaces k)) (λ k. kept (names es k))
    (λ s. ap names_held (h.spaces.each s)) named_spaces

-- ---- the section

too_large : (n : ℕ) (fault : Fault) → size_cause n fault → (fault ≡ TooLarge) × (2 ^ 32 ≤ n)
too_large n (Memory e) c = absurd c
too_large n TooMany c = absurd c
too_large n TooLarge c = (refl, c)
too_large n Unfinished c = absurd c

sort_free : (space : Space) → NoCause (item_sort space).Cause
sort_free spaces.CoreFuncs fault c = c
sort_free other fault c = c

-- what is against a subsection makes all of them too large
one_long : (p : Space × HolderState) (fault : Fault) → (space_names p).Cause fault → (fault ≡ TooLarge) × (2 ^ 32 ≤ length (space_names p).text)
one_long p fault c = elim (eqb_tells p.1.count 0) [
  | inl t ↦ let none = rw t.0 at c in absurd none
  | inr t ↦ rw t.0 (large (rw t.0 at c))
]
  where
    content : List ℕ
    content = (item_sort p.0).text ++ held_text p.1

    large : size_cause (length content) fault ⊎ ((item_sort p.0).Cause fault ⊎ ⊥)
        → (fault ≡ TooLarge) × (2 ^ 32 ≤ length (0x01 ∷ (unsigned_text (length content) ++ content)))
    large (inl k) = let l = too_large (length content) fault k in (l.0, omega (arith, l.1, length-append (unsigned_text (length content)) content))
    large (inr (inl k)) = absurd (sort_free p.0 fault k)
    large (inr (inr k)) = absurd k

module _ {N : Type 0} (seen : N → Space × HolderState) where
  abbrev seen_names : List N → Piece
  seen_names = each (λ n. space_names (seen n))

  all_long : (ns : List N) (fault : Fault) → (seen_names ns).Cause fault → (fault ≡ TooLarge) × (2 ^ 32 ≤ length (seen_names ns).text)
  all_long [] fault c = absurd c
  all_long (n ∷ ns) fault (inl c) = let k =
      one_long (seen n) fault c in (k.0, omega (arith, k.1, length-append (space_names (seen n)).text (seen_names ns).text))
  all_long (n ∷ ns) fault (inr c) = let k = all_long ns fault c in (k.0, omega (arith, k.1, length-append (space_names (seen n)).text (seen_names ns).text))

  -- the section as it is written, whose text is bytes
  abbrev pub section_of : List N → Piece
  section_of ns = 0x00 ▸ sized_in_order (in_order (name_form names_label) (seen_names ns))

  abbrev pub written : List N → Piece
  written ns = record {
    Fits = (section_of ns).Fits × AreBytes (section_of ns).text;
    Cause = (section_of ns).Cause;
    text = (section_of ns).text;
    Reads = (section_of ns).Reads;
  }

  abbrev body_of : List N → List ℕ
  body_of ns = (name_form names_label).text ++ (seen_names ns).text

  -- it serves as the custom section of these bytes
  pub names_serve : (ns : List N) (bytes : List ℕ) → (seen_names ns).text ≡ bytes
      → Serves (written ns) (item (CustomItem (record { label = names_label; bytes = bytes })))
  names_serve ns bytes e = subst (λ (bs : List ℕ). Serves (written ns) (item (CustomItem (record { label = names_label; bytes = bs })))) e
      (record { text = refl; fits = fits; among = among; free = free })
    where
      fits : (written ns).Fits → (item (CustomItem (record { label = names_label; bytes = (seen_names ns).text }))).Fits
      fits h = (
        h.0.0,
        (
          h.0.1.0,
          last_below (name_form names_label).text (seen_names ns).text
              (last_below (unsigned_text (length (body_of ns))) (body_of ns) h.1.1),
        ),
      )

      among : (fault : Fault) → (written ns).Cause fault → (item (CustomItem (record { label = names_label; bytes = (seen_names ns).text }))).Cause fault
      among fault (inl (inl c)) = inr (inl c)
      among fault (inl (inr c)) = let k = all_long ns fault c.1 in
          subst (λ (f : Fault). (item (CustomItem (record { label = names_label; bytes = (seen_names ns).text }))).Cause f) (sym k.0)
          (inl (omega (arith, k.1, length-append (name_form names_label).text (seen_names ns).text)))
      among fault (inr c) = inl c.1

      free : NoCause (written ns).Cause → NoCause (item (CustomItem (record { label = names_label; bytes = (seen_names ns).text }))).Cause
      free none fault (inl c) = none fault (inr ((λ f k. none f (inl k)), c))
      free none fault (inr (inl c)) = none fault (inl (inl c))
      free none fault (inr (inr c)) = c

-- ---- the call

module _ {N : Type 0} (seen : N → Space × HolderState) (ns : List N) (old new : State) (result : Result (Unit {0}) Fault)
    (is : map seen ns ≡ kept_names old) (some : none_named (map seen ns) ≡ false)
    (t : AddsUnindexedSection old new result (written seen ns)) where
  as_kept : (bytes : List ℕ) → (seen_names seen ns).text ≡ bytes → EntersWithoutIndex old new result (custom_entry names_label bytes)
  as_kept bytes e = without_index_enters old new result (custom_entry names_label bytes)
      (record { alone = refl; defined = refl; named = refl }) (names_serve seen ns bytes e) t

  seen_text : (seen_names seen ns).text ≡ all_names (map seen ns)
  seen_text = sym (flat_map-map (λ p. (space_names p).text) seen ns)

  at : (ss : List Subsection) → all_names (map seen ns) ≡ subsections_text ss → MatchOption (named_entry ss)
      ((result ≡ Ok tt) × (new ≡ old)) (λ x. EntersWithoutIndex old new result x)
  at [] e = absurd (some_text (map seen ns) some e)
  at (s ∷ ss) e = as_kept (subsections_text (s ∷ ss)) (seen_text ∙ e)

  pub adds_names : AddsNames old new result
  adds_names = record {
    held = λ es h. at (name_subsections (names es)) (ap all_names (is ∙ kept_is old es h) ∙ texts (by_space (names es)));
    none = λ none f. let other = subst (λ (qs : List (Space × HolderState)). none_named qs ≡ true) (sym is) none in cc;
    some = λ n. as_kept (all_names (kept_names old)) (seen_text ∙ ap all_names is);
    err = t.err;
    unfinished = (as_kept (seen_names seen ns).text refl).unfinished;
  }

pub nothing_named : (old : State) (ps : List (Space × HolderState)) → ps ≡ kept_names old → none_named ps ≡ true
    → builder_is_finished old ≡ true → AddsNames old old (Ok tt)
nothing_named old ps is none finished = record {
  held = λ es h. rw (none_text (by_space (names es)) (rw (is ∙ kept_is old es h) at none)) (refl, refl);
  none = λ n f. (refl, refl);
  some = λ named. let other = subst (λ (qs : List (Space × HolderState)). none_named qs ≡ false) (sym is) named in cc;
  err = tt;
  unfinished = (λ f. cc, λ e. cc);
}

-- ---- by the parts of a builder

both_fit : (P Q : Type 0) (r : Result (Unit {0}) Fault) → OnOk r P → OnOk r Q → OnOk r (P × Q)
both_fit P Q (Ok u) h k = (h, k)
both_fit P Q (Err f) h k = tt

module _ {N : Type 0} (b : Buffered) (s : Spaced) (old : State) (seen : N → Space × HolderState) (ns : List N)
    (agree : Agree b.writing s.taking) (view : builder_view b s ≡ old) (finished : is_none b.writing ≡ true)
    (is : map seen ns ≡ by_space (λ k. names_held (namespace_at s.settled k))) where
  is_there : map seen ns ≡ by_space (λ k. names_held (namespace_at old.settled.spaces k))
  is_there = subst (λ (x : State). map seen ns ≡ by_space (λ k. names_held (namespace_at x.settled.spaces k))) view is

  pub none_named_there : none_named (map seen ns) ≡ true → AddsNames old old (Ok tt)
  none_named_there none = nothing_named old (map seen ns) is_there none (sym (finished_is b s old agree view) ∙ finished)

  pub written_text : (written seen ns).Fits → ∥ IsItemText None None (written seen ns).text ∥₁
  written_text fits = ∣ record {
    value = CustomItem (record { label = names_label; bytes = (seen_names seen ns).text });
    collects = refl;
    takes = refl;
    fits = (names_serve seen ns (seen_names seen ns).text refl).fits fits;
    is = refl;
  } ∣₁

  module _ (next : Buffered) (result : Result (Unit {0}) Fault) (lead : AppendsSection b next result (with_bytes (section_of seen ns) []))
      (bytes : OnOk result (AreBytes (section_of seen ns).text)) where
    pub names_stood : AppendsSection b next result (written seen ns)
    names_stood =
        let stood = stands_as b next result plain_serves lead in
        record { ok = stood.ok; fits = both_fit _ _ result stood.fits bytes; free = stood.free; err = stood.err; warranted = stood.warranted }

    pub names_there : none_named (map seen ns) ≡ false → AddsNames old (builder_view next s) result
    names_there some = adds_names seen ns old (builder_view next s) result is_there some
        (stood_nowhere b next s old result (written seen ns) agree view finished names_stood)
