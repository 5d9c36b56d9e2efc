-- What is taken for a piece that serves as an entry's item enters every list that was held.
use Rattle.std.proofs.Common.{◌≡◌, ℕ, false, inl, inr, List, [], ◌∷◌, ◌++◌, Option, None, Some, Result, Ok, Err, refl, sym, ◌∙◌, ap, subst}
use Rattle.std.specs.Result.{IfOk, IfErr, OnOk}
use Rattle.wenc_base.specs.Prelude.{IsWarranted, NoCause, Piece, Serves, still_warranted}
use Rattle.wenc_base.specs.declared.fault.Fault.TheVariants.{Memory, TooMany, TooLarge, Unfinished}
use Rattle.wenc_builder.specs.Prelude.{AddsItem, AddsSection, AddsUnindexedSection, AddsWholeItem}
use Rattle.wenc_builder.specs.Prelude.{CallCause, Content, EnterCause, Enters, EntersWith}
use Rattle.wenc_builder.specs.Prelude.{EntersWithoutIndex, Entry, Holds, Indices, IsCountAt}
use Rattle.wenc_builder.specs.Prelude.{IsIndexOf, NewItem, State, builder_is_finished, collected}
use Rattle.wenc_builder.specs.Prelude.{content_of, content_with_section, defines, item, item_begun}
use Rattle.wenc_builder.specs.Prelude.{item_ended, items, namespace_at, never_unfinished, new_item}
use Rattle.wenc_builder.specs.Prelude.{new_item_indices, settled_in, step, with_entry}
use Rattle.wenc_base.specs.declared.fault.Fault.{Fault}
use Rattle.wenc_sections.specs.declared.space.Space.{Space}
use Rattle.wenc_builder.specs.Adds.{AddsPiece}
use Rattle.wenc_builder.specs.laws.Caused.{adding_never_unfinished}
use Rattle.wenc_builder.specs.laws.Fits.{HasRoom}
use Rattle.wenc_builder.specs.laws.Step.{holds_step, holds_index}
use Rattle.wenc_builder.specs.laws.Typed.{new_item_of_list}

-- This content is the one with this entry, which takes these indices.
pub record IsEntry (old : State) (x : Entry) (after : Content) (indices : Option Indices) : Type 0 where
  pub content : after ≡ with_entry old.settled x
  pub defined : defines x.item ≡ indices

-- This entry's item is collected in the section with this id, takes one index in this space, and
-- has this name or none.
pub record IsNewItemOf (x : Entry) (id : ℕ) (space : Space) (name : Option (List ℕ)) : Type 0 where
  pub section : collected x.item ≡ Some id
  pub defined : defines x.item ≡ Some (record { space = space; number = 1 })
  pub named : x.name ≡ name

-- This entry's item stands alone, takes these indices, and has this name or none.
pub record IsAloneOf (x : Entry) (indices : Option Indices) (name : Option (List ℕ)) : Type 0 where
  pub alone : collected x.item ≡ None
  pub defined : defines x.item ≡ indices
  pub named : x.name ≡ name

new_item_is : {p : Piece} (old : State) (x : Entry) (id : ℕ) (space : Space) (name : Option (List ℕ)) → IsNewItemOf x id space name → Serves p (item x.item)
    → IsEntry old x (content_of (item_begun old (new_item id space name p.text))) (Some (record { space = space; number = 1 }))
new_item_is {p} old x id space name w s = record {
  content = new_item_of_list old x
      (new_item id space name p.text) w.section w.defined w.named (sym s.text);
  defined = w.defined;
}

alone_is : {p : Piece} (old : State) (x : Entry) (indices : Option Indices) (name : Option (List ℕ)) → IsAloneOf x indices name → Serves p (item x.item)
    → IsEntry old x (content_with_section old.settled indices name p.text) indices
alone_is old x indices name w s = record { content = rw (w.alone, w.defined, w.named, s.text) refl; defined = w.defined }

-- ---- its causes

same_call : (old : State) (one other : Fault → Type 0) (after : Content) (indices : Option Indices) (fault : Fault)
    → (one fault → other fault) → CallCause old one after indices fault → CallCause old other after indices fault
same_call old one other after indices fault f (inl (inl c)) = inl (inl (f c))
same_call old one other after indices fault f (inl (inr c)) = inl (inr c)
same_call old one other after indices fault f (inr c) = inr c

module _ {p : Piece} (old : State) (x : Entry) (after : Content) (indices : Option Indices) (w : IsEntry old x after indices) (s : Serves p (item x.item)) where
  to_entry : (fault : Fault) → CallCause old p.Cause after indices fault → EnterCause old x fault
  to_entry fault c =
      let P : Content → Type 0 = λ k. CallCause old p.Cause k indices fault in
      let Q : Option Indices → Type 0 = λ k. CallCause old p.Cause (with_entry old.settled x) k fault in
      same_call old p.Cause (item x.item).Cause (with_entry old.settled x) (defines x.item) fault (s.among fault)
      (subst Q (sym w.defined) (subst P w.content c))

  from_entry : NoCause (item x.item).Cause → (fault : Fault) → EnterCause old x fault → CallCause old p.Cause after indices fault
  from_entry none fault c =
      let P : Content → Type 0 = λ k. CallCause old p.Cause k indices fault in
      let Q : Option Indices → Type 0 = λ k. CallCause old p.Cause (with_entry old.settled x) k fault in
      subst P (sym w.content) (subst Q w.defined (same_call old (item x.item).Cause p.Cause (with_entry old.settled x)
      (defines x.item) fault (λ own. absurd (none fault own)) c))

  -- nothing is against the entry where nothing was against the call
  entry_free : NoCause (CallCause old p.Cause after indices) → NoCause (EnterCause old x)
  entry_free none fault c = none fault (from_entry (s.free (λ f k. none f (inl (inl k)))) fault c)

only_unfinished : (old : State) (x : Entry) → EnterCause old x Unfinished → builder_is_finished old ≡ false
only_unfinished old x (inl c) =
    let after = with_entry old.settled x in
    absurd (adding_never_unfinished (item x.item).Cause (namespace_at after.spaces) (defines x.item) after.sections.current (never_unfinished x.item) c)
only_unfinished old x (inr c) = c.1

-- ---- its call

pub enters : {R : Type 0} {p : Piece} (old new next : State) (result : Result R Fault) (x : Entry) (after : Content)
    (indices : Option Indices) (Returned : R → Type 0) (Tells : List Entry → R → Type 0) (Counts : Option Indices → R → Type 0)
    → IsEntry old x after indices → Serves p (item x.item) → next ≡ settled_in after
    → ((es : List Entry) → Holds old es → (r : R) → Returned r → Tells es r) → ((r : R) → Returned r → Counts indices r)
    → AddsPiece old new next result after indices p Returned → EntersWith old new result x Tells Counts
enters {R} {p} old new next result x after indices Returned Tells Counts w s done tells counts t = record {
  held = held result t.ok t.returned t.fits t.free;
  state = state result t.ok;
  counted = counted result t.returned;
  fits = fits result t.fits;
  free = free result t.free;
  err = t.err;
  warranted = warranted result t.warranted;
  unfinished = (t.unfinished_first, only result t.warranted);
}
  where
    is_step : new ≡ next → new ≡ step old x
    is_step e = e ∙ done ∙ ap settled_in w.content

    room : NoCause (CallCause old p.Cause after indices) → HasRoom (with_entry old.settled x).sections.current
    room none fault c = entry_free old x after indices w s none fault (inl (inr (inr c)))

    held : (r : Result R Fault) → OnOk r (new ≡ next) → IfOk r Returned → OnOk r p.Fits
        → OnOk r (NoCause (CallCause old p.Cause after indices)) → (es : List Entry) → Holds old es
        → IfOk r (λ a. Holds new (es ++ x ∷ []) × Tells es a)
    held (Ok a) e f fit none es h = (rw (is_step e) (holds_step old es x (s.fits fit) (room none) h), tells es h a f)
    held (Err fault) e f fit none es h = tt

    state : (r : Result R Fault) → OnOk r (new ≡ next) → OnOk r (new ≡ step old x)
    state (Ok a) e = is_step e
    state (Err fault) e = tt

    counted : (r : Result R Fault) → IfOk r Returned → IfOk r (Counts (defines x.item))
    counted (Ok a) f = subst (λ (o : Option Indices). Counts o a) (sym w.defined) (counts a f)
    counted (Err fault) f = tt

    fits : (r : Result R Fault) → OnOk r p.Fits → OnOk r (item x.item).Fits
    fits (Ok a) f = s.fits f
    fits (Err fault) f = tt

    free : (r : Result R Fault) → OnOk r (NoCause (CallCause old p.Cause after indices)) → OnOk r (NoCause (EnterCause old x))
    free (Ok a) none = entry_free old x after indices w s none
    free (Err fault) none = tt

    warranted : (r : Result R Fault) → IfErr r (IsWarranted (CallCause old p.Cause after indices)) → IfErr r (IsWarranted (EnterCause old x))
    warranted (Ok a) f = tt
    warranted (Err fault) f = still_warranted _ _ (to_entry old x after indices w s) fault f

    only : (r : Result R Fault) → IfErr r (IsWarranted (CallCause old p.Cause after indices)) → r ≡ Err Unfinished → builder_is_finished old ≡ false
    only (Ok a) f e = cc
    only (Err (Memory m)) f e = cc
    only (Err TooMany) f e = cc
    only (Err TooLarge) f e = cc
    only (Err Unfinished) f e = only_unfinished old x (to_entry old x after indices w s Unfinished f)

-- the number of items in a space is the index of what comes next
index_told : (old : State) (x : Entry) (d : Indices) → defines x.item ≡ Some d → (es : List Entry) → Holds old es → (i : ℕ)
    → i ≡ (namespace_at old.settled.spaces d.space).count → IsIndexOf (items es) x.item i
index_told old x d e es h i f = rw e (holds_index old es d.space i h f)

pub new_item_enters : {p : Piece} (old new : State) (result : Result ℕ Fault) (x : Entry) (id : ℕ) (space : Space) (name : Option (List ℕ))
    → IsNewItemOf x id space name → Serves p (item x.item)
    → AddsWholeItem old new result (new_item id space name) p → Enters old new result x
new_item_enters {p} old new result x id space name w s t =
    let d : NewItem = new_item id space name p.text in
    enters old new (item_ended (item_begun old d)) result x (content_of (item_begun old d)) (Some (new_item_indices d)) _ _ (IsCountAt old)
    (new_item_is old x id space name w s) s refl (index_told old x (new_item_indices d) w.defined) (λ i f. f) t

pub alone_enters : {p : Piece} (old new : State) (result : Result ℕ Fault) (x : Entry) (d : Indices) (name : Option (List ℕ))
    → IsAloneOf x (Some d) name → Serves p (item x.item)
    → AddsSection old new result d name p → Enters old new result x
alone_enters {p} old new result x d name w s t =
    let after = content_with_section old.settled (Some d) name p.text in
    enters old new (settled_in after) result x after (Some d) _ _ (IsCountAt old) (alone_is old x (Some d) name w s) s refl
    (index_told old x d w.defined) (λ i f. f) t

pub without_index_enters : {p : Piece} (old new : State) (result : Result (Unit {0}) Fault) (x : Entry) → IsAloneOf x None None
    → Serves p (item x.item) → AddsUnindexedSection old new result p → EntersWithoutIndex old new result x
without_index_enters {p} old new result x w s t =
    let after = content_with_section old.settled None None p.text in
    enters old new (settled_in after) result x after None _ _ (λ indices r. Unit {0}) (alone_is old x None None w s) s refl (λ es h r u. tt) (λ r u. tt) t

-- ---- a piece for another that has no cause where it fits

takes_as : {R : Type 0} {p q : Piece} (old new next : State) (result : Result R Fault) (after : Content) (indices : Option Indices)
    (Returned : R → Type 0) → (p.Fits → q.Fits) → ((fault : Fault) → p.Cause fault → q.Cause fault)
    → (q.Fits → NoCause q.Cause) → AddsPiece old new next result after indices p Returned → AddsPiece old new next result after indices q Returned
takes_as {p} {q} old new next (Ok r) after indices Returned fits among lawful t = record {
  returned = t.returned;
  ok = t.ok;
  fits = fits t.fits;
  free = free;
  err = tt;
  warranted = tt;
  unfinished_first = t.unfinished_first;
}
  where
    free : NoCause (CallCause old q.Cause after indices)
    free fault (inl (inl c)) = lawful (fits t.fits) fault c
    free fault (inl (inr c)) = t.free fault (inl (inr c))
    free fault (inr c) = t.free fault (inr c)
takes_as {p} {q} old new next (Err fault) after indices Returned fits among lawful t = record {
  returned = tt;
  ok = tt;
  fits = tt;
  free = tt;
  err = t.err;
  warranted = still_warranted _ _ (λ f c. same_call old p.Cause q.Cause after indices f (among f) c) fault t.warranted;
  unfinished_first = t.unfinished_first;
}

pub new_item_as : {p q : Piece} (old new : State) (result : Result ℕ Fault) (id : ℕ) (space : Space) (name : Option (List ℕ))
    → p.text ≡ q.text → (p.Fits → q.Fits) → ((fault : Fault) → p.Cause fault → q.Cause fault)
    → (q.Fits → NoCause q.Cause) → AddsWholeItem old new result (new_item id space name) p → AddsWholeItem old new result (new_item id space name) q
new_item_as {p} {q} old new result id space name e fits among lawful t =
    let d : NewItem = new_item id space name p.text in
    subst (λ (text : List ℕ). AddsItem old new (item_ended (item_begun old (new_item id space name text))) result (new_item id space name text) q) e
    (takes_as old new (item_ended (item_begun old d)) result (content_of (item_begun old d)) (Some (new_item_indices d)) _ fits among lawful t)

-- ---- refused before anything else
