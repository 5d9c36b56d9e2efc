-- The cause of an entry, by what a builder counts.
use Rattle.std.proofs.Common.{◌≡◌, ℕ, ◌≤◌, ◌^◌, ◌⊎◌, inl, inr, List, [], ◌∷◌, ◌++◌, length, Option}
use Rattle.std.proofs.Common.{Some, None, refl, sym, ap, subst, ◌∙◌, arith, length-append}
use Rattle.std.proofs.lemmas.Bool.Decides.{eqb_tells}
use Rattle.std.specs.List.{flat_map, AllByRecursion}
use Rattle.wenc_base.specs.Prelude.{AnyCause, NameAssociation, NoCause, count_free}
use Rattle.wenc_base.specs.Prelude.{name_association, name_map, names_text, size_cause, size_free}
use Rattle.wenc_base.specs.Prelude.{sized, unsigned_text}
use Rattle.wenc_base.specs.declared.fault.Fault.{Fault}
use Rattle.wenc_base.specs.declared.fault.Fault.TheVariants.{TooMany, TooLarge, Unfinished}
use Rattle.wenc_builder.specs.Prelude.{AddingCause, Alone, Entry, EntryCause, IndexCause, Indices}
use Rattle.wenc_builder.specs.Prelude.{IsEncodable, Item, OpenSection, Run, Section, SectionCause}
use Rattle.wenc_builder.specs.Prelude.{SpaceCause, collected, component, defines, item, item_of}
use Rattle.wenc_builder.specs.Prelude.{items, names, namespace_of, never_unfinished, next_index}
use Rattle.wenc_builder.specs.Prelude.{open_of, runs, section_piece, sections}
use Rattle.wenc_builder.specs.Entry.{IndicesCause}
use Rattle.wenc_builder.specs.laws.Never.{fits_is_free}
use Rattle.wenc_builder.specs.laws.Runs.{runs_extended, pushed, pushed_some, open_skip, runs_push}
use Rattle.wenc_builder.specs.laws.Step.{items_push}

-- ---- one cause of many

any_last : {A : Type 0} (cause : A → Fault → Type 0) (ys : List A) (x : A) (fault : Fault)
    → AnyCause cause (ys ++ x ∷ []) fault → AnyCause cause ys fault ⊎ cause x fault
any_last cause [] x fault (inl c) = inr c
any_last cause [] x fault (inr c) = absurd c
any_last cause (y ∷ ys) x fault (inl c) = inl (inl c)
any_last cause (y ∷ ys) x fault (inr c) = elim (any_last cause ys x fault c) [ inl d ↦ inl (inr d) | inr d ↦ inr d ]

last_any : {A : Type 0} (cause : A → Fault → Type 0) (ys : List A) (x : A) (fault : Fault)
    → cause x fault → AnyCause cause (ys ++ x ∷ []) fault
last_any cause [] x fault c = inl c
last_any cause (y ∷ ys) x fault c = inr (last_any cause ys x fault c)

-- ---- a section

abbrev item_cause : Item → Fault → Type 0
item_cause x = (item x).Cause

abbrev body_of : List Item → List ℕ
body_of xs = flat_map (λ x. (item x).text) xs

abbrev open_run : ℕ → List Item → Option OpenSection
open_run id xs = open_of (Run id xs ∷ [])

size_is : (id : ℕ) (xs : List Item) (fault : Fault) → size_cause
    (length (unsigned_text (length xs) ++ body_of xs)) fault → SectionCause (open_run id xs) fault
size_is id xs TooLarge c = omega (arith, c, length-append (unsigned_text (length xs)) (body_of xs))
size_is id xs other c = absurd c

-- a section's cause is that it is too much, or one of its items'
from_run : (id : ℕ) (xs : List Item) (fault : Fault) → (section_piece (Run id xs)).Cause fault
    → SectionCause (open_run id xs) fault ⊎ AnyCause item_cause xs fault
from_run id xs fault (inl c) = inl (size_is id xs fault c)
from_run id xs TooMany (inr (inl c)) = inl c
from_run id xs other (inr (inl c)) = absurd c
from_run id xs fault (inr (inr c)) = inr c

to_run : (id : ℕ) (xs : List Item) (fault : Fault) → SectionCause (open_run id xs) fault
    → (section_piece (Run id xs)).Cause fault
to_run id xs TooMany c = inr (inl c)
to_run id xs TooLarge c = inl (omega (arith, c, length-append (unsigned_text (length xs)) (body_of xs)))
to_run id xs other c = absurd c

-- ---- one item more

-- what the sections' cause with one more item is, where they had none
abbrev Pushed : List Section → Item → Fault → Type 0
Pushed ss x fault = item_cause x fault ⊎ SectionCause (open_of ss) fault

from_one : (id : ℕ) (x : Item) (fault : Fault) → (section_piece (Run id (x ∷ []))).Cause fault
    → item_cause x fault ⊎ SectionCause (open_run id (x ∷ [])) fault
from_one id x fault c = elim (from_run id (x ∷ []) fault c)
    [ inl d ↦ inr d | inr d ↦ elim d [ inl e ↦ inl e | inr e ↦ absurd e ] ]

to_one : (id : ℕ) (x : Item) (fault : Fault) → item_cause x fault
    ⊎ SectionCause (open_run id (x ∷ [])) fault → (section_piece (Run id (x ∷ []))).Cause fault
to_one id x fault (inl c) = inr (inr (inl c))
to_one id x fault (inr c) = to_run id (x ∷ []) fault c

from_extended : (o : Option ℕ) (p : Section) (x : Item) (fault : Fault)
    → NoCause (section_piece p).Cause → (sections (runs_extended o p x)).Cause fault
    → Pushed (runs_extended o p x) x fault
from_extended None p x fault none (inl c) = absurd (none fault c)
from_extended None p x fault none (inr (inl c)) = inl c
from_extended None p x fault none (inr (inr c)) = absurd c
from_extended (Some id) (Alone y) x fault none (inl c) = absurd (none fault c)
from_extended (Some id) (Alone y) x fault none (inr (inl c)) = from_one id x fault c
from_extended (Some id) (Alone y) x fault none (inr (inr c)) = absurd c
from_extended (Some id) (Run other ys) x fault none c =
    elim (eqb_tells other id) [
      | inl t ↦ let d = rw t.0 at c in rw t.0 (grown d)
      | inr t ↦ let d = rw t.0 at c in rw t.0 (opened d)
    ]
  where
    grown : (section_piece (Run other (ys ++ x ∷ []))).Cause fault ⊎ ⊥
        → item_cause x fault ⊎ SectionCause (open_run other (ys ++ x ∷ [])) fault
    grown (inr d) = absurd d
    grown (inl d) =
        elim (from_run other (ys ++ x ∷ []) fault d) [
          | inl e ↦ inr e
          | inr e ↦ elim (any_last item_cause ys x fault e) [
            | inl f ↦
                absurd (none fault (inr (inr f)))
            | inr f ↦ inl f
          ]
        ]

    opened : (section_piece (Run other ys)).Cause fault
        ⊎ ((section_piece (Run id (x ∷ []))).Cause fault ⊎ ⊥)
        → item_cause x fault ⊎ SectionCause (open_run id (x ∷ [])) fault
    opened (inl d) = absurd (none fault d)
    opened (inr (inl d)) = from_one id x fault d
    opened (inr (inr d)) = absurd d

from_pushed : (o : Option ℕ) (ss : List Section) (x : Item) (fault : Fault)
    → NoCause (sections ss).Cause → (sections (pushed o ss x)).Cause fault
    → Pushed (pushed o ss x) x fault
from_pushed None [] x fault none (inl c) = inl c
from_pushed None [] x fault none (inr c) = absurd c
from_pushed (Some id) [] x fault none (inl c) = from_one id x fault c
from_pushed (Some id) [] x fault none (inr c) = absurd c
from_pushed o (p ∷ []) x fault none c = from_extended o p x fault (λ f d. none f (inl d)) c
from_pushed o (p ∷ q ∷ ps) x fault none (inl c) = absurd (none fault (inl c))
from_pushed o (p ∷ q ∷ ps) x fault none (inr c) =
    let s = pushed_some o (q ∷ ps) x in
    rw (open_skip p s.0 (pushed o (q ∷ ps) x) s.1 s.2) (from_pushed o (q ∷ ps) x fault (λ f d. none f (inr d)) c)

to_extended : (o : Option ℕ) (p : Section) (x : Item) (fault : Fault)
    → Pushed (runs_extended o p x) x fault → (sections (runs_extended o p x)).Cause fault
to_extended None p x fault (inl c) = inr (inl c)
to_extended None p x fault (inr c) = absurd c
to_extended (Some id) (Alone y) x fault c = inr (inl (to_one id x fault c))
to_extended (Some id) (Run other ys) x fault c =
    elim (eqb_tells other id) [
      | inl t ↦ let d = rw t.0 at c in rw t.0 (inl (grown d))
      | inr t ↦ let d = rw t.0 at c in rw t.0 (inr (inl (to_one id x fault d)))
    ]
  where
    grown : item_cause x fault ⊎ SectionCause (open_run other (ys ++ x ∷ [])) fault
        → (section_piece (Run other (ys ++ x ∷ []))).Cause fault
    grown (inl d) = inr (inr (last_any item_cause ys x fault d))
    grown (inr d) = to_run other (ys ++ x ∷ []) fault d

to_pushed : (o : Option ℕ) (ss : List Section) (x : Item) (fault : Fault)
    → Pushed (pushed o ss x) x fault → (sections (pushed o ss x)).Cause fault
to_pushed None [] x fault (inl c) = inl c
to_pushed None [] x fault (inr c) = absurd c
to_pushed (Some id) [] x fault c = inl (to_one id x fault c)
to_pushed o (p ∷ []) x fault c = to_extended o p x fault c
to_pushed o (p ∷ q ∷ ps) x fault c =
    let s = pushed_some o (q ∷ ps) x in
    let d = rw (open_skip p s.0 (pushed o (q ∷ ps) x) s.1 s.2) at c in
    inr (to_pushed o (q ∷ ps) x fault d)

-- ---- a space

-- names of which one is too large are too large
name_large : (ns : List NameAssociation) (fault : Fault)
    → AnyCause (λ n. (name_association n).Cause) ns fault
    → (fault ≡ TooLarge) × (2 ^ 32 ≤ length (names_text ns))
name_large [] fault c = absurd c
name_large (n ∷ ns) fault (inl (inl c)) = absurd c
name_large (n ∷ ns) fault (inl (inr (inr c))) = absurd c
name_large (n ∷ ns) TooLarge (inl (inr (inl c))) = (
  refl,
  omega (
    arith,
    c,
    length-append (name_association n).text (names_text ns),
    length-append (unsigned_text n.index) (unsigned_text (length n.name) ++ n.name),
    length-append (unsigned_text (length n.name)) n.name,
  ),
)
name_large (n ∷ ns) other (inl (inr (inl c))) = absurd c
name_large (n ∷ ns) fault (inr c) = let r = name_large ns fault c in
    (r.0, omega (arith, r.1, length-append (name_association n).text (names_text ns)))

from_map : (ns : List NameAssociation) (count : ℕ) (fault : Fault)
    → (sized (name_map ns)).Cause fault
    → SpaceCause (record { count = count; named = length ns; names = names_text ns }) fault
from_map ns count TooLarge (inl c) = omega (arith, c, length-append (unsigned_text (length ns)) (names_text ns))
from_map ns count TooMany (inr (inl c)) = inr c
from_map ns count other (inl c) = absurd c
from_map ns count other (inr (inl c)) = absurd c
from_map ns count fault (inr (inr c)) =
    let r = name_large ns fault c in
    subst
    (λ (f : Fault). SpaceCause (record
    { count = count; named = length ns; names = names_text ns }) f) (sym r.0) (omega (arith, r.1))

from_indices : (es : List Entry) (d : Option Indices) (fault : Fault) → IndicesCause es d fault
    → IndexCause (namespace_of es) d fault
from_indices es None fault c = c
from_indices es (Some d) TooMany (inl c) = inl c
from_indices es (Some d) other (inl c) = absurd c
from_indices es (Some d) fault (inr c) = from_map (names es d.space) (next_index (items es) d.space) fault c

to_indices : (es : List Entry) (d : Option Indices) (fault : Fault)
    → IndexCause (namespace_of es) d fault → IndicesCause es d fault
to_indices es None fault c = c
to_indices es (Some d) TooMany (inl c) = inl c
to_indices es (Some d) TooMany (inr c) = inr (inr (inl c))
to_indices es (Some d) TooLarge c =
    inr
    (inl
    (omega (
      arith,
      c,
      length-append (unsigned_text (length (names es d.space)))
          (names_text (names es d.space)),
    )))
to_indices es (Some d) other c = absurd c

-- ---- the entry

-- what these entries with x count: of the space that x takes indices in, and of the open section
abbrev pub CountedCause : List Entry → Entry → Fault → Type 0
CountedCause es x = AddingCause (item x.item).Cause (namespace_of (es ++ x ∷ [])) (defines x.item)
    (open_of (runs (items (es ++ x ∷ []))))

module _ (es : List Entry) (x : Entry) where
  abbrev after : List Section
  after = runs (items (es ++ x ∷ []))

  is_pushed : after ≡ pushed (collected x.item) (runs (items es)) x.item
  is_pushed = ap runs (items_push es x) ∙ runs_push (items es) x.item

  -- what is counted makes the entry's cause
  pub from_counts : (fault : Fault) → CountedCause es x fault → EntryCause es x fault
  from_counts fault (inl c) =
      inl (inr (rw is_pushed (to_pushed (collected x.item) (runs (items es)) x.item fault (inl c))))
  from_counts fault (inr (inl c)) = inr (to_indices (es ++ x ∷ []) (defines x.item) fault c)
  from_counts fault (inr (inr c)) =
      inl (inr (rw is_pushed (to_pushed (collected x.item) (runs (items es)) x.item fault
      (inr (subst (λ (ss : List Section). SectionCause (open_of ss) fault) is_pushed c)))))

  -- and where the entries before it have none, it is that
  pub to_counts : NoCause (component (runs (items es))).Cause → (fault : Fault)
      → EntryCause es x fault → CountedCause es x fault
  to_counts none fault (inl (inl c)) = absurd c
  to_counts none fault (inl (inr c)) =
      let d = rw is_pushed at c in
      elim (from_pushed (collected x.item) (runs (items es)) x.item fault (λ f e. none f (inr e)) d) [
        | inl e ↦ inl e
        | inr e ↦ inr (inr (subst (λ (ss : List Section). SectionCause (open_of ss) fault) (sym is_pushed) e))
      ]
  to_counts none fault (inr c) = inr (inl (from_indices (es ++ x ∷ []) (defines x.item) fault c))

-- ---- items that can be encoded

each_free : (id : ℕ) (xs : List Item) → AllByRecursion (λ x. (item_of id x).Fits) xs → NoCause (AnyCause item_cause xs)
each_free id [] h fault c = c
each_free id (x ∷ xs) h fault (inl c) = fits_is_free x h.0.1 fault c
each_free id (x ∷ xs) h fault (inr c) = each_free id xs h.1 fault c

section_free : (s : Section) → (section_piece s).Fits → NoCause (section_piece s).Cause
section_free (Run id xs) h fault (inl c) = size_free (length (unsigned_text (length xs) ++ body_of xs)) h.1.0 fault c
section_free (Run id xs) h fault (inr (inl c)) = count_free (length xs) h.1.1.0 fault c
section_free (Run id xs) h fault (inr (inr c)) = each_free id xs h.1.1.1 fault c
section_free (Alone x) h fault c = fits_is_free x h.1 fault c

sections_free : (ss : List Section) → (sections ss).Fits → NoCause (sections ss).Cause
sections_free [] h fault c = c
sections_free (s ∷ ss) h fault (inl c) = section_free s h.0 fault c
sections_free (s ∷ ss) h fault (inr c) = sections_free ss h.1 fault c

-- they have no cause
pub encodable_free : (xs : List Item) → IsEncodable xs → NoCause (component (runs xs)).Cause
encodable_free xs h fault (inl c) = c
encodable_free xs h fault (inr c) = sections_free (runs xs) h.1 fault c

-- ---- never unfinished

each_finished : (xs : List Item) → AnyCause item_cause xs Unfinished → ⊥
each_finished [] c = c
each_finished (x ∷ xs) (inl c) = never_unfinished x c
each_finished (x ∷ xs) (inr c) = each_finished xs c

sections_finished : (ss : List Section) → (sections ss).Cause Unfinished → ⊥
sections_finished [] c = c
sections_finished (Run id xs ∷ ss) (inl (inl c)) = c
sections_finished (Run id xs ∷ ss) (inl (inr (inl c))) = c
sections_finished (Run id xs ∷ ss) (inl (inr (inr c))) = each_finished xs c
sections_finished (Alone x ∷ ss) (inl c) = never_unfinished x c
sections_finished (s ∷ ss) (inr c) = sections_finished ss c

indices_finished : (es : List Entry) (d : Option Indices) → IndicesCause es d Unfinished → ⊥
indices_finished es None c = c
indices_finished es (Some d) c = from_indices es (Some d) Unfinished c

-- an entry's cause is never that something is unfinished
pub entry_never_unfinished : (es : List Entry) (x : Entry) → EntryCause es x Unfinished → ⊥
entry_never_unfinished es x (inl (inl c)) = c
entry_never_unfinished es x (inl (inr c)) = sections_finished (runs (items (es ++ x ∷ []))) c
entry_never_unfinished es x (inr c) = indices_finished (es ++ x ∷ []) (defines x.item) c
