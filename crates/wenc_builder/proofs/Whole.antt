-- A whole item: it is written, then takes its index, and is ended; or it is given up.
use Rattle.std.proofs.Common.{◌≡◌, ℕ, true, false, is_none, List, [], length, Option, Some, None, Result, Ok, Err, OnOk, OnErr, inl, inr, refl, ap, sym, subst, ◌∙◌}
use Rattle.std.specs.Prelude.{IfOk, IfErr}
use Rattle.std.specs.Iterator.Runs.{WholeRun}
use Rattle.wenc_base.specs.Prelude.{Extended, Extends, IsWarranted, NoCause, Piece, either, nothing}
use Rattle.wenc_base.specs.Prelude.{still_warranted}
use Rattle.wenc_base.specs.declared.fault.Fault.TheVariants.{Unfinished}
use Rattle.wenc_base.proofs.Runs.{no_run}
use Rattle.wenc_builder.specs.Prelude.{AddsItem, AddsListedItem, AddsWholeItem, Buffered, CallCause}
use Rattle.wenc_builder.specs.Prelude.{CanUndo, IsBuilder, IsItemPiece, IsOf, Namespace, NewItem}
use Rattle.wenc_builder.specs.Prelude.{NoRoom, SectionCause, SpaceCause, Spaced, State, Undo}
use Rattle.wenc_builder.specs.Prelude.{buffer_appended, buffer_begun, buffer_ended, buffer_given_up}
use Rattle.wenc_builder.specs.Prelude.{builder_is_finished, builder_view, content_of, entered}
use Rattle.wenc_builder.specs.Prelude.{item_begun, namespace_at, namespace_with, new_item}
use Rattle.wenc_builder.specs.Prelude.{new_item_indices, section_appended, section_begun, some_in}
use Rattle.wenc_builder.specs.Prelude.{spaced, spaces_begun, spaces_ended, spaces_with, undo_at}
use Rattle.wenc_builder.specs.laws.Caused.{space_refuses, beginning_refuses, text_refuses}
use Rattle.wenc_base.specs.declared.fault.Fault.{Fault}
use Rattle.wenc_sections.specs.declared.space.Space.{Space}
use Rattle.wenc_builder.proofs.Undone.{no_undo, is_of, taken_with}
use Rattle.wenc_builder.proofs.Standing.{writing_none, begun_stands, value_stands, ended_stands}
use Rattle.wenc_builder.proofs.Taken.{settled_before, begins, added}
use Rattle.wenc_builder.proofs.Viewed.{appended_value, ended_is}

module _ (b : Buffered) (spaces : List Namespace) (undo : Option Undo) (i : IsBuilder b (spaced spaces undo) × CanUndo spaces undo) (old : State)
    (view : builder_view b (spaced spaces undo) ≡ old) (finished : is_none b.writing ≡ true) (id : ℕ) (space : Space) (name : Option (List ℕ)) where
  abbrev s : Spaced
  s = spaced spaces undo

  -- the space, as it is with the item
  abbrev after : Namespace
  after = namespace_with (namespace_at spaces space) 1 name

  quiet : undo ≡ None
  quiet = no_undo b spaces undo i.0.agree finished

  abbrev New : List ℕ → NewItem
  New = new_item id space name

  abbrev first : Buffered
  first = buffer_begun b id

  abbrev taking : Spaced
  taking = spaces_begun s space 1 name

  abbrev begun : State
  begun = builder_view first taking

  none : old.begun ≡ None
  none = settled_before b s old i.0.agree view finished

  begun_is : begun ≡ item_begun old (New [])
  begun_is = rw (← view) refl

  -- ---- it is given up

  -- as it was, whatever was written
  pub back : (new : Buffered) → new.settled ≡ b.settled → buffer_given_up new ≡ b
  back new e = rw (e, ← writing_none b finished) refl

  refused : (new next : State) (fault : Fault) (p : Piece) (cause : Fault → Type 0)
      → ((f : Fault) → cause f → CallCause old p.Cause (content_of (item_begun old (New p.text))) (Some (new_item_indices (New p.text))) f)
      → IsWarranted cause fault → new ≡ old → AddsItem old new next (Err fault) (New p.text) p
  refused new next fault p cause there warranted same = record {
    returned = tt;
    ok = tt;
    fits = tt;
    free = tt;
    err = same;
    warranted = still_warranted _ _ there fault warranted;
    unfinished_first = λ e. let settled = none in cc;
  }

  pub section_refused : (new next : State) (fault : Fault) (p : Piece) → IsWarranted (SectionCause (section_begun b id)) fault → new ≡ old
      → AddsItem old new next (Err fault) (New p.text) p
  section_refused new next fault p w same = refused new next fault p (SectionCause (section_begun b id))
      (λ f c. beginning_refuses old id space name p.text p.Cause f (inl (inr (inr (rw (← view) c))))) w same

  pub space_refused : (new next : State) (fault : Fault) (p : Piece) → length spaces ≡ 13 → IsWarranted (SpaceCause after) fault
      → new ≡ old → AddsItem old new next (Err fault) (New p.text) p
  space_refused new next fault p all w same = refused new next fault p (SpaceCause after)
      (λ f c. beginning_refuses old id space name p.text p.Cause f
      (space_refuses old (New []) (λ _. ⊥) (rw (← view, quiet) all) f (rw (← view, quiet) c))) w same

  pub text_refused : (new next : State) (fault : Fault) (p : Piece) (opened : Buffered) → opened ≡ first
      → IsWarranted (either p.Cause (NoRoom (section_appended opened p.text))) fault → new ≡ old → AddsItem old new next (Err fault) (New p.text) p
  text_refused new next fault p opened e w same = refused new next fault p (either p.Cause (NoRoom (section_appended opened p.text)))
      (λ f c. text_refuses old (New p.text) p.Cause f
      (subst (λ (x : State). either p.Cause (NoRoom (entered x.settled.sections id p.text).current) f) view
      (subst (λ (o : Buffered). either p.Cause (NoRoom (section_appended o p.text)) f) e c))) w same

  -- ---- it is begun for an encoder

  module _ (opened : Buffered) (opening : opened ≡ first) (next : List Namespace) (ok : next ≡ spaces_with spaces (some_in space 1) name)
      (kept : Undo) (state : kept ≡ undo_at space (namespace_at spaces space)) (all : length spaces ≡ 13)
      (room : NoCause (SectionCause (section_begun b id))) where
    taking_is : spaced next (Some kept) ≡ taking
    taking_is = rw (ok, state, quiet) (taken_with spaces space 1 name all)

    pub begun_stays : IsBuilder opened (spaced next (Some kept)) × IsOf next kept
    begun_stays = (
      rw opening (subst (IsBuilder first) (sym taking_is) (begun_stands b s i.0 finished id space name room)),
      rw (ok, state) (is_of spaces space 1 name all),
    )

    pub begun_added : (index : ℕ) → index ≡ (namespace_at spaces space).count → NoCause (SpaceCause after)
        → AddsItem old (builder_view opened (spaced next (Some kept))) (item_begun old (New [])) (Ok index) (New []) nothing
    begun_added index counted free =
        begins b s old _ (item_begun old (New [])) index (New []) i.0.agree view finished
        (rw opening (ap (λ (x : Spaced). builder_view first x) taking_is ∙ begun_is))
        (rw (← view, quiet) counted) (rw (← view, quiet) all) (rw (← view, quiet) free) (rw (← view) room)

  -- ---- it is written

  module _ (room : NoCause (SectionCause (section_begun b id))) (written : Buffered) where
    stands : IsBuilder first taking
    stands = begun_stands b s i.0 finished id space name room

    module _ (opened : Buffered) (opening : opened ≡ first) (p : Piece)
        (more : Extends opened written (buffer_appended opened p.text) (Ok tt) p (NoRoom (section_appended opened p.text))) where
      a : Extends first written (buffer_appended first p.text) (Ok tt) p (NoRoom (section_appended first p.text))
      a = subst (λ (o : Buffered). Extends o written (buffer_appended o p.text) (Ok tt) p (NoRoom (section_appended o p.text))) opening more

      longer : IsBuilder written taking
      longer = value_stands first taking stands written (Ok tt) p a

      value_stays : IsItemPiece (Some id) (some_in space 1) p → IsBuilder (buffer_ended written) (spaces_ended taking)
      value_stays whole = ended_stands written taking longer (rw a.ok (whole a.fits))

      value_added : (new : State) (index : ℕ) → index ≡ (namespace_at spaces space).count → length spaces ≡ 13 → NoCause (SpaceCause after)
          → new ≡ builder_view (buffer_ended written) (spaces_ended taking) → AddsWholeItem old new (Ok index) New p
      value_added new index counted all free is =
          let text = appended_value first taking begun stands.agree refl written (Ok tt) p a in
          added old begun (builder_view written taking) new index id space name p
          (begins b s old begun (item_begun old (New [])) index (New []) i.0.agree view finished begun_is (rw (← view, quiet) counted)
          (rw (← view, quiet) all) (rw (← view, quiet) free) (rw (← view) room))
          text.ok text.fits text.free (is ∙ ended_is written taking longer.agree)

      -- ---- it takes its index and is ended, or it is given up

      module _ (new : Buffered) (next : List Namespace) (result : Result ℕ Fault)
          (ok : OnOk result (next ≡ spaces_with spaces (some_in space 1) name)) (ended : OnOk result (new ≡ buffer_ended written))
          (err : OnErr result (next ≡ spaces)) (given_up : OnErr result (new ≡ buffer_given_up written)) where
        pub whole_stands : IsItemPiece (Some id) (some_in space 1) p → IsBuilder new (spaced next undo) × CanUndo next undo
        whole_stands whole = at result ok ended err given_up
          where
            at : (r : Result ℕ Fault) → OnOk r (next ≡ spaces_with spaces (some_in space 1) name) → OnOk r (new ≡ buffer_ended written)
                → OnErr r (next ≡ spaces) → OnErr r (new ≡ buffer_given_up written) → IsBuilder new (spaced next undo) × CanUndo next undo
            at (Ok index) k e r g = rw (k, e, quiet) (rw quiet at (value_stays whole), tt)
            at (Err fault) k e r g = let same : new ≡ b = g ∙ back written (rw a.ok refl) in rw (r, same) i

        pub whole_added : (state : State) → builder_view new (spaced next undo) ≡ state → IfOk result (λ i. i ≡ (namespace_at spaces space).count)
            → length spaces ≡ 13 → OnOk result (NoCause (SpaceCause after)) → IfErr result (IsWarranted (SpaceCause after))
            → AddsWholeItem old state result New p
        whole_added state is index all free warranted = at result ok ended err given_up index free warranted
          where
            at : (r : Result ℕ Fault) → OnOk r (next ≡ spaces_with spaces (some_in space 1) name) → OnOk r (new ≡ buffer_ended written)
                → OnErr r (next ≡ spaces) → OnErr r (new ≡ buffer_given_up written) → IfOk r (λ i. i ≡ (namespace_at spaces space).count)
                → OnOk r (NoCause (SpaceCause after)) → IfErr r (IsWarranted (SpaceCause after)) → AddsWholeItem old state r New p
            at (Ok index) k e r g counted f w = value_added state index counted all f (sym is ∙ rw (k, e, quiet) refl)
            at (Err fault) k e r g counted f w =
                let same : new ≡ b = g ∙ back written (rw a.ok refl) in
                space_refused state _ fault p all w (sym is ∙ rw (r, same) view)

-- what was made of the values of an iterator is a value
pub as_value : (b new : Buffered) (p : Piece) → Extended new (buffer_appended b) (λ bytes. NoRoom (section_appended b bytes)) p
    → Extends b new (buffer_appended b p.text) (Ok tt) p (NoRoom (section_appended b p.text))
as_value b new p e = record { ok = e.state; fits = e.fits; free = e.free; err = tt; warranted = tt }

-- an item is added that is made of all values of an iterator, or it is given up after them
pub listed_added : {S B : Type 0} (steps : S → Option B → S → Type 0) (values : S) (old new : State) (result : Result ℕ Fault)
    (d : List ℕ → NewItem) (piece : List B → Piece) → WholeRun steps values (λ run. AddsWholeItem old new result d (piece run.items))
    → AddsListedItem steps values old new result d piece
listed_added steps values old new (Ok index) d piece h = record { ok = h; refused = tt }
listed_added steps values old new (Err fault) d piece h = record { ok = tt; refused = (h.0, h.1, h.3) }

pub unfinished_refused : (old next : State) (id : ℕ) (space : Space) (name : Option (List ℕ)) (p : Piece) → builder_is_finished old ≡ false
    → AddsItem old old next (Err Unfinished) (new_item id space name p.text) p
unfinished_refused old next id space name p e = record {
  returned = tt;
  ok = tt;
  fits = tt;
  free = tt;
  err = refl;
  warranted = inr (refl, e);
  unfinished_first = λ u. refl;
}

-- an item that is made of the values of an iterator is refused before any of them came
pub listed_refused : {S B : Type 0} (steps : S → Option B → S → Type 0) (values : S) (old new : State) (fault : Fault)
    (d : List ℕ → NewItem) (piece : List B → Piece) → AddsWholeItem old new (Err fault) d (piece [])
    → AddsListedItem steps values old new (Err fault) d piece
listed_refused steps values old new fault d piece h = record {
  ok = tt;
  refused = no_run steps values (λ vs. AddsWholeItem old new (Err fault) d (piece vs)) h;
}
