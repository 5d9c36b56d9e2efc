-- What calls do to the counts.
use Rattle.std.proofs.Common.{◌≡◌, ◌≢◌, ◌<◌, ◌≤◌, ℕ, ◌+◌, List, [], ◌∷◌, ◌++◌, length, true, is_none, Option, None, Some, Result, Ok, Err}
use Rattle.std.proofs.Common.{refl, sym, ap, subst, ◌∙◌, arith, inl, inr}
use Rattle.std.proofs.lemmas.List.{get_or-set_same, get_or-set_other}
use Rattle.wenc_builder.specs.Builder.{Content, State, Namespace, namespace_at, namespace_set, content_with, content_of}
use Rattle.wenc_builder.specs.Builder.{count_in, BegunItem, NewItem, new_item_in, new_item_indices, space_with, no_names, namespace_with, builder_is_finished}
use Rattle.wenc_builder.specs.Builder.{item_begun, begun_appended, item_appended, item_given_up}
use Rattle.wenc_builder.specs.Enters.{EntersWith, Enters}
use Rattle.wenc_base.specs.declared.fault.Fault.{Fault}
use Rattle.wenc_builder.specs.Entry.{Entry, items}
use Rattle.wenc_builder.specs.Holds.{Holds}
use Rattle.wenc_sections.specs.Space.{space_number}
use Rattle.wenc_builder.specs.Space.{Indices, defines, some_in, number_in, defined_in, IsIndexAt, next_index}
use Rattle.wenc_sections.specs.declared.space.Space.{Space}
use Rattle.wenc_sections.specs.laws.Space.{space_within, same_number, space_decides, space_tells, space_ne}
use Rattle.wenc_parts.specs.declared.component.ComponentSectionId.{ComponentSectionId}

-- one entry more
index_push : (k : Space) (es : List Entry) (x : Entry) → next_index (items (es ++ x ∷ [])) k ≡ next_index (items es) k + defined_in k x.item
index_push k [] x = omega arith
index_push k (e ∷ es) x = omega (arith, index_push k es x)

-- the count of a space, where no item is being written
settled_count : (s : State) (space : Space) → s.begun ≡ None → count_in s space ≡ (namespace_at s.settled.spaces space).count
settled_count s space none = ap (λ (b : Option BegunItem). (namespace_at (content_with s.settled b).spaces space).count) none

-- the count of a space, by the list that is held
pub counted : (s : State) (es : List Entry) (space : Space) → Holds s es → count_in s space ≡ next_index (items es) space
counted s es space h = settled_count s space h.finished ∙ ap (λ (n : Namespace). n.count) (h.spaces.each space)

pub next_counted : (s : State) (es : List Entry) (space : Space) → Holds s es → next_index (items es) space ≡ count_in s space
next_counted s es space h = sym (counted s es space h)

-- no count falls
pub never_less : {R : Type 0} {Returned : List Entry → R → Type 0} {Counted : Option Indices → R → Type 0} (old new : State)
    (result : Result R Fault) (x : Entry) (space : Space) (es : List Entry)
    → Holds old es → EntersWith old new result x Returned Counted → count_in old space ≤ count_in new space
never_less old new (Ok r) x space es h e =
    let here : count_in new space ≡ next_index (items (es ++ x ∷ [])) space = counted new (es ++ x ∷ []) space (e.held es h).0 in
    omega (arith, here, index_push space es x, counted old es space h)
never_less old new (Err fault) x space es h e = rw e.err (omega arith)

module _ (old new : State) (i : ℕ) (x : Entry) (space : Space) (es : List Entry) (h : Holds old es) (e : Enters old new (Ok i) x)
    (d : defines x.item ≡ some_in space 1) where
  pub answered : i ≡ count_in old space
  answered =
      let at : IsIndexAt (items es) (some_in space 1) i = subst (λ (o : Option Indices). IsIndexAt (items es) o i) d (e.held es h).1 in
      at ∙ sym (counted old es space h)

  more : (other : Space) → count_in new other ≡ count_in old other + number_in other (some_in space 1)
  more other =
      let here : count_in new other ≡ next_index (items (es ++ x ∷ [])) other = counted new (es ++ x ∷ []) other (e.held es h).0 in
      let adds : defined_in other x.item ≡ number_in other (some_in space 1) = ap (λ (o : Option Indices). number_in other o) d in
      omega (arith, here, index_push other es x, adds, counted old es other h)

  pub raised : count_in new space ≡ count_in old space + 1
  raised = more space ∙ rw ((space_decides space space).1 refl) refl

  pub alone : (other : Space) → other ≢ space → count_in new other ≡ count_in old other
  alone other apart = more other ∙ rw (space_ne space other (λ s. apart (sym s))) (omega arith)

-- ---- an item that is written in parts

with_count : (n : Namespace) (number : ℕ) (name : Option (List ℕ)) → (namespace_with n number name).count ≡ n.count + number
with_count n number None = refl
with_count n number (Some name) = refl

one_set : (spaces : List Namespace) (j k : Space) (n : Namespace) → space_number k < length spaces → n.count ≡ (namespace_at spaces j).count + 1
    → (namespace_at (namespace_set spaces j n) k).count ≡ (namespace_at spaces k).count + number_in k (Some (record { space = j; number = 1 }))
one_set spaces j k n within more =
    elim (space_tells j k) [
      | inl t ↦ let more' = rw t.1 at more in rw (t.0, t.1, get_or-set_same spaces (space_number k) n no_names within) more'
      | inr t ↦ rw (t.0, get_or-set_other spaces (space_number j) (space_number k) n no_names (λ q. t.1 (same_number j k (sym q)))) (omega arith)
    ]

-- its beginning takes one index of its space
begun_more : (old : State) (d : NewItem) (space : Space) (es : List Entry) → Holds old es
    → count_in (item_begun old d) space ≡ count_in old space + number_in space (Some (new_item_indices d))
begun_more old d space es h =
    let within : space_number space < length old.settled.spaces = omega (arith, space_within space, h.spaces.all) in
    rw (settled_count old space h.finished) (one_set old.settled.spaces d.space space (space_with old d) within
    (with_count (namespace_at old.settled.spaces d.space) 1 d.name))

pub begun_not_less : (old parent : State) (d : NewItem) (space : Space) (es : List Entry) → Holds old es → parent ≡ item_begun old d
    → count_in old space ≤ count_in parent space
begun_not_less old parent d space es h e = rw e (omega (arith, begun_more old d space es h))

pub begun_raised : (old parent : State) (id : ComponentSectionId) (space : Space) (name : Option (List ℕ)) (text : List ℕ) (es : List Entry)
    → Holds old es → parent ≡ item_begun old (new_item_in id space name text)
    → count_in parent space ≡ count_in old space + 1
begun_raised old parent id space name text es h e =
    let one : number_in space (some_in space 1) ≡ 1 = rw ((space_decides space space).1 refl) refl in
    rw e (omega (arith, begun_more old (new_item_in id space name text) space es h, one))

pub begun_alone : (old parent : State) (id : ComponentSectionId) (space other : Space) (name : Option (List ℕ)) (text : List ℕ)
    (es : List Entry) → Holds old es → parent ≡ item_begun old (new_item_in id space name text)
    → other ≢ space → count_in parent other ≡ count_in old other
begun_alone old parent id space other name text es h e apart =
    let none : number_in other (some_in space 1) ≡ 0 = rw (space_ne space other (λ s. apart (sym s))) refl in
    rw e (omega (arith, begun_more old (new_item_in id space name text) other es h, none))

-- more of it changes no count
longer_count : (c : Content) (b : Option BegunItem) (text : List ℕ) (k : Space)
    → (namespace_at (content_with c (begun_appended b text)).spaces k).count ≡ (namespace_at (content_with c b).spaces k).count
longer_count c None text k = refl
longer_count c (Some b) text k = refl

pub written_same : (old new : State) (text : List ℕ) (space : Space) → new ≡ item_appended old text → count_in new space ≡ count_in old space
written_same old new text space e = rw e (longer_count old.settled old.begun text space)

none_begun : (b : Option BegunItem) → is_none b ≡ true → b ≡ None
none_begun None e = refl
none_begun (Some b) e = cc

-- and giving it up brings back those before it
pub given_up_back : (old parent new : State) (space : Space) → builder_is_finished old ≡ true → parent.settled ≡ old.settled
    → new ≡ item_given_up parent → count_in new space ≡ count_in old space
given_up_back old parent new space finished same e = rw (e, same) (sym (settled_count old space (none_begun old.begun finished)))
