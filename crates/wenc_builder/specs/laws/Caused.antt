-- What refuses a part of a call refuses the call.
use Rattle.std.proofs.Common.{◌≡◌, ℕ, ◌+◌, ◌<◌, ◌^◌, ◌⊎◌, inl, inr, List, [], ◌++◌, length, Option}
use Rattle.std.proofs.Common.{Some, None, sym, refl, arith, length-append, subst}
use Rattle.std.proofs.lemmas.List.{get_or-set_same}
use Rattle.std.proofs.lemmas.Bool.Decides.{eqb_tells}
use Rattle.wenc_base.specs.Prelude.{either, number_size}
use Rattle.wenc_base.specs.declared.fault.Fault.TheVariants.{Memory, TooMany, TooLarge, Unfinished}
use Rattle.wenc_builder.specs.Prelude.{AddingCause, CallCause, IndexCause, Indices, Namespace}
use Rattle.wenc_builder.specs.Prelude.{NewItem, NoRoom, OpenSection, SectionCause, SpaceCause}
use Rattle.wenc_builder.specs.Prelude.{State, content_of, entered, entered_at, item_begun}
use Rattle.wenc_builder.specs.Prelude.{namespace_at, new_item, new_item_indices, no_names}
use Rattle.wenc_builder.specs.Prelude.{space_with}
use Rattle.wenc_sections.specs.Prelude.{space_number}
use Rattle.wenc_base.specs.declared.fault.Fault.{Fault}
use Rattle.wenc_sections.specs.declared.space.Space.{Space}
use Rattle.wenc_sections.specs.laws.Space.{space_within}

-- ---- a section, a space

-- a section is too much in these two ways alone
pub cause_is : (o : Option OpenSection) (fault : Fault) → SectionCause o fault → (fault ≡ TooMany) ⊎ (fault ≡ TooLarge)
cause_is None fault c = absurd c
cause_is (Some o) (Memory e) c = absurd c
cause_is (Some o) TooMany c = inl refl
cause_is (Some o) TooLarge c = inr refl
cause_is (Some o) Unfinished c = absurd c

-- nothing is unfinished in what an item makes too much of
index_never_unfinished : (space : Space → Namespace) (d : Option Indices) → IndexCause space d Unfinished → ⊥
index_never_unfinished space None c = c
index_never_unfinished space (Some d) c = c

pub adding_never_unfinished : (cause : Fault → Type 0) (space : Space → Namespace)
    (indices : Option Indices) (current : Option OpenSection) → (cause Unfinished → ⊥)
    → AddingCause cause space indices current Unfinished → ⊥
adding_never_unfinished cause space indices current own (inl c) = own c
adding_never_unfinished cause space indices current own (inr (inl c)) = index_never_unfinished space indices c
adding_never_unfinished cause space indices current own (inr (inr c)) =
    elim (cause_is current Unfinished c) [ inl e ↦ cc | inr e ↦ cc ]

-- a space that fits has no cause
pub space_free : (s : Namespace) → s.count < 2 ^ 32 → s.named < 2 ^ 32
    → number_size s.named + length s.names < 2 ^ 32 → (fault : Fault) → SpaceCause s fault → ⊥
space_free s count named size (Memory e) c = c
space_free s count named size TooMany (inl c) = omega (arith, count, c)
space_free s count named size TooMany (inr c) = omega (arith, named, c)
space_free s count named size TooLarge c = omega (arith, size, c)
space_free s count named size Unfinished c = c

-- ---- an item that is begun

there : (old : State) (d : NewItem) → length old.settled.spaces ≡ 13
    → namespace_at (content_of (item_begun old d)).spaces d.space ≡ space_with old d
there old d h = get_or-set_same old.settled.spaces (space_number d.space)
    (space_with old d) no_names (omega (arith, h, space_within d.space))

pub space_refuses : (old : State) (d : NewItem) (cause : Fault → Type 0) → length old.settled.spaces ≡ 13
    → (fault : Fault) → SpaceCause (space_with old d) fault
    → CallCause old cause (content_of (item_begun old d)) (Some (new_item_indices d)) fault
space_refuses old d cause h fault c =
    inl (inr (inl (subst (λ (s : Namespace). SpaceCause s fault) (sym (there old d h)) c)))

-- where nothing is against its space nor its section, nothing is against it
pub begun_free : (old : State) (d : NewItem) → length old.settled.spaces ≡ 13 → old.begun ≡ None
    → ((fault : Fault) → SpaceCause (space_with old d) fault → ⊥)
    → ((fault : Fault) → SectionCause (entered old.settled.sections d.id d.text).current fault
    → ⊥)
    → (fault : Fault) → CallCause old (λ _. ⊥) (content_of (item_begun old d)) (Some (new_item_indices d)) fault → ⊥
begun_free old d h none space section fault (inl (inl c)) = c
begun_free old d h none space section fault (inl (inr (inl c))) =
    space fault (subst (λ (s : Namespace). SpaceCause s fault) (there old d h) c)
begun_free old d h none space section fault (inl (inr (inr c))) = section fault c
begun_free old d h none space section fault (inr c) = let unfinished = c.1 in cc

-- ---- its text

-- a section with more bytes has more causes
grows_at : (id count : ℕ) (body text more : List ℕ) (fault : Fault)
    → SectionCause (Some (record { id = id; count = count; body = body ++ text })) fault
    → SectionCause (Some (record { id = id; count = count; body = body ++ (text ++ more) })) fault
grows_at id count body text more (Memory e) c = c
grows_at id count body text more TooMany c = c
grows_at id count body text more TooLarge c =
    omega (
      arith,
      c,
      length-append body text,
      length-append body (text ++ more),
      length-append text more,
    )
grows_at id count body text more Unfinished c = c

pub section_grows : (closed : List ℕ) (o : Option OpenSection) (id : ℕ) (text more : List ℕ)
    (fault : Fault) → SectionCause (entered_at closed o id text).current fault
    → SectionCause (entered_at closed o id (text ++ more)).current fault
section_grows closed None id text more fault c = grows_at id 1 [] text more fault c
section_grows closed (Some o) id text more fault c =
    elim (eqb_tells o.id id) [
      | inl t ↦ let d = rw t.0 at c in rw t.0 (grows_at o.id (o.count + 1) o.body text more fault d)
      | inr t ↦ let d = rw t.0 at c in rw t.0 (grows_at id 1 [] text more fault d)
    ]

many_shrinks : (closed : List ℕ) (o : Option OpenSection) (id : ℕ) (text : List ℕ)
    → SectionCause (entered_at closed o id text).current TooMany
    → SectionCause (entered_at closed o id []).current TooMany
many_shrinks closed None id text c = c
many_shrinks closed (Some o) id text c =
    elim (eqb_tells o.id id) [
      | inl t ↦ let d = rw t.0 at c in rw t.0 d
      | inr t ↦ let d = rw t.0 at c in rw t.0 d
    ]

pub beginning_refuses : (old : State) (id : ℕ) (space : Space) (name : Option (List ℕ))
    (text : List ℕ) (cause : Fault → Type 0) (fault : Fault)
    → CallCause old (λ _. ⊥) (content_of (item_begun old (new_item id space name [])))
    (Some (new_item_indices (new_item id space name []))) fault
    → CallCause old cause (content_of (item_begun old (new_item id space name text)))
    (Some (new_item_indices (new_item id space name text))) fault
beginning_refuses old id space name text cause fault (inl (inl c)) = absurd c
beginning_refuses old id space name text cause fault (inl (inr (inl c))) = inl (inr (inl c))
beginning_refuses old id space name text cause fault (inl (inr (inr c))) =
    inl (inr (inr (section_grows old.settled.sections.closed old.settled.sections.current id
    [] text fault c)))
beginning_refuses old id space name text cause fault (inr c) = inr c

pub text_refuses : (old : State) (d : NewItem) (cause : Fault → Type 0) (fault : Fault)
    → either cause (NoRoom (entered old.settled.sections d.id d.text).current) fault
    → CallCause old cause (content_of (item_begun old d)) (Some (new_item_indices d)) fault
text_refuses old d cause fault (inl c) = inl (inl c)
text_refuses old d cause fault (inr c) =
    subst (λ (f : Fault). CallCause old cause (content_of (item_begun old d))
    (Some (new_item_indices d)) f) (sym c.0) (inl (inr (inr c.1)))

-- where nothing is against its beginning nor its text, nothing is against it
pub whole_free : (old : State) (id : ℕ) (space : Space) (name : Option (List ℕ)) (text : List ℕ)
    (cause : Fault → Type 0)
    → ((fault : Fault) → CallCause old
    (λ _. ⊥) (content_of (item_begun old (new_item id space name [])))
    (Some (new_item_indices (new_item id space name []))) fault → ⊥)
    → ((fault : Fault) → either cause (NoRoom (entered old.settled.sections id text).current) fault → ⊥)
    → (fault : Fault) → CallCause old cause
    (content_of (item_begun old (new_item id space name text)))
    (Some (new_item_indices (new_item id space name text))) fault → ⊥
whole_free old id space name text cause beginning appending fault (inl (inl c)) = appending fault (inl c)
whole_free old id space name text cause beginning appending fault (inl (inr (inl c))) =
    beginning fault (inl (inr (inl c)))
whole_free old id space name text cause beginning appending fault (inl (inr (inr c))) =
    let Stands : Fault → Type 0 = λ f. SectionCause (entered old.settled.sections id text).current f in
    elim (cause_is (entered old.settled.sections id text).current fault c) [
      | inl e ↦
          beginning TooMany
          (inl
          (inr (inr (many_shrinks old.settled.sections.closed old.settled.sections.current id text
          (subst Stands e c)))))
      | inr e ↦ appending TooLarge (inr (refl, subst Stands e c))
    ]
whole_free old id space name text cause beginning appending fault (inr c) = beginning fault (inr c)
