-- What a call did, by the list that was held.
use Rattle.std.specs.Option.{option_map}
use Rattle.std.proofs.Common.{◌≡◌, ℕ, inl, inr, List, [], ◌∷◌, ◌++◌, Option, Some, None, refl}
use Rattle.std.proofs.Common.{Result, Ok, Err, sym, ap, subst}
use Rattle.std.specs.Result.{MatchResult}
use Rattle.wenc_base.specs.Prelude.{IsWarranted, still_warranted}
use Rattle.wenc_builder.specs.Prelude.{AddingCause, EnterCause, Enters, EntersWith, Entry}
use Rattle.wenc_builder.specs.Prelude.{EntryCause, Holds, IndexCause, Indices, IsCountAt, IsIndexAt}
use Rattle.wenc_builder.specs.Prelude.{IsIndexOf, Item, Namespace, OpenSection, SectionCause}
use Rattle.wenc_builder.specs.Prelude.{SpaceCause, State, defines, index_of, item, items}
use Rattle.wenc_builder.specs.Prelude.{namespace_at, namespace_of, next_index, open_of, runs}
use Rattle.wenc_builder.specs.Prelude.{with_entry}
use Rattle.wenc_base.specs.declared.fault.Fault.{Fault}
use Rattle.wenc_sections.specs.declared.space.Space.{Space}
use Rattle.wenc_builder.specs.laws.EntryCause.{from_counts, to_counts, encodable_free}
use Rattle.wenc_builder.specs.laws.Step.{sections_step, spaces_hold_more}

-- what the content with one more entry is, by the list that is held then
current_is : (old : State) (es : List Entry) (x : Entry) → Holds old es
    → (with_entry old.settled x).sections.current ≡ open_of (runs (items (es ++ x ∷ [])))
current_is old es x h = (sections_step old es x h).last

-- the spaces agree at these indices
abbrev SpacesAgree : (Space → Namespace) → (Space → Namespace) → Option Indices → Type 0
SpacesAgree one other None = Unit {0}
SpacesAgree one other (Some d) = one d.space ≡ other d.space

space_is : (old : State) (es : List Entry) (x : Entry) (o : Option Indices) → defines x.item ≡ o → Holds old es
    → SpacesAgree (namespace_at (with_entry old.settled x).spaces) (namespace_of (es ++ x ∷ [])) o
space_is old es x None e h = tt
space_is old es x (Some d) e h = (spaces_hold_more old.settled.spaces es x h.spaces).each d.space

backwards : (one other : Space → Namespace) (d : Option Indices) → SpacesAgree one other d → SpacesAgree other one d
backwards one other None e = tt
backwards one other (Some d) e = sym e

index_moved : (one other : Space → Namespace) (d : Option Indices) (f : Fault)
    → SpacesAgree one other d → IndexCause one d f → IndexCause other d f
index_moved one other None f e c = c
index_moved one other (Some d) f e c = subst (λ (n : Namespace). SpaceCause n f) e c

moved : (cause : Fault → Type 0) (s t : Space → Namespace) (d : Option Indices)
    (o p : Option OpenSection) (f : Fault) → SpacesAgree s t d → o ≡ p → AddingCause cause s d o f
    → AddingCause cause t d p f
moved cause s t d o p f e q (inl c) = inl c
moved cause s t d o p f e q (inr (inl c)) = inr (inl (index_moved s t d f e c))
moved cause s t d o p f e q (inr (inr c)) = inr (inr (subst (λ (n : Option OpenSection). SectionCause n f) q c))

-- the call's cause is the entry's
pub to_entry : (old : State) (es : List Entry) (x : Entry) → Holds old es → (f : Fault)
    → EnterCause old x f → EntryCause es x f
to_entry old es x h f (inl c) = from_counts es x f
    (moved (item x.item).Cause _ _ _ _ _ f (space_is old es x _ refl h) (current_is old es x h) c)
to_entry old es x h f (inr c) = let none : old.begun ≡ None = h.finished in let some = c.1 in cc

pub from_entry : (old : State) (es : List Entry) (x : Entry) → Holds old es → (f : Fault)
    → EntryCause es x f → EnterCause old x f
from_entry old es x h f c =
    let counted = to_counts es x (encodable_free (items es) h.fits) f c in
    inl (moved (item x.item).Cause _ _ _ _ _ f (backwards _ _ _ (space_is old es x _ refl h))
    (sym (current_is old es x h)) counted)

pub answered_with : {R : Type 0} (old new : State) (result : Result R Fault) (x : Entry)
    (Returned : List Entry → R → Type 0) (Counted : Option Indices → R → Type 0) (es : List Entry)
    → EntersWith old new result x Returned Counted → Holds old es
    → MatchResult result (λ r. Holds new (es ++ x ∷ []) × Returned es r
    × ((fault : Fault) → EntryCause es x fault → ⊥))
    (λ fault. Holds new es × IsWarranted (EntryCause es x) fault)
answered_with old new (Ok r) x Returned Counted es e h =
    ((e.held es h).0, (e.held es h).1, λ fault c. e.free fault (from_entry old es x h fault c))
answered_with old new (Err fault) x Returned Counted es e h =
    (rw e.err h, still_warranted _ _ (to_entry old es x h) fault e.warranted)

index_is : (xs : List Item) (d : Option Indices) (i : ℕ) → IsIndexAt xs d i
    → Some i ≡ option_map (λ (d : Indices). next_index xs d.space) d
index_is xs None i p = absurd p
index_is xs (Some d) i p = ap (λ (n : ℕ). Some n) p

-- what a call that answers the entry's index leads to
pub answered : (old new : State) (result : Result ℕ Fault) (x : Entry) (es : List Entry)
    → Enters old new result x → Holds old es
    → MatchResult result (λ i. Holds new (es ++ x ∷ []) × (Some i ≡ index_of (items es) x.item)
    × ((fault : Fault) → EntryCause es x fault → ⊥))
    (λ fault. Holds new es × IsWarranted (EntryCause es x) fault)
answered old new (Ok i) x es e h =
    let a = answered_with old new (Ok i) x (λ es i. IsIndexOf (items es) x.item i) (IsCountAt old) es e h in
    (a.0, index_is (items es) (defines x.item) i a.1, a.2)
answered old new (Err fault) x es e h = answered_with old new (Err fault) x
    (λ es i. IsIndexOf (items es) x.item i) (IsCountAt old) es e h
