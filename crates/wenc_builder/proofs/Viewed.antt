-- A builder's state, by those of its buffer and its spaces.
use Rattle.std.proofs.Common.{◌≡◌, List, ℕ, is_none, Option, Some, None, Result, Ok, Err, refl, ap, sym, subst, ◌∙◌}
use Rattle.wenc_base.specs.Prelude.{Extends, ExtendsListed, Piece, either, still_warranted}
use Rattle.wenc_builder.specs.Prelude.{Agree, Buffered, Content, Namespace, NoRoom, SectionsState}
use Rattle.wenc_builder.specs.Prelude.{Spaced, State, Undo, Writing, buffer_appended, buffer_ended}
use Rattle.wenc_builder.specs.Prelude.{buffered_content, builder_is_finished, builder_view}
use Rattle.wenc_builder.specs.Prelude.{content_of, count_in, item_appended, item_ended}
use Rattle.wenc_builder.specs.Prelude.{namespace_at, no_room_in_section, section_appended, spaced}
use Rattle.wenc_builder.specs.Prelude.{spaces_ended, taken}
use Rattle.wenc_builder.specs.inside.Spaces.{Taking}
use Rattle.wenc_builder.specs.inside.View.{begun_of}
use Rattle.wenc_base.specs.declared.fault.Fault.{Fault}
use Rattle.wenc_sections.specs.declared.space.Space.{Space}
use Rattle.wenc_builder.proofs.Undone.{taken_is, ended_spaces}

-- ---- nothing is begun in both, or in none

finished_at : (w : Option Writing) (t : Option Taking) → Agree w t → is_none (begun_of w t) ≡ is_none w
finished_at None t a = refl
finished_at (Some w) None a = absurd a
finished_at (Some w) (Some t) a = refl

pub finished_is : (b : Buffered) (s : Spaced) (now : State) → Agree b.writing s.taking → builder_view b s ≡ now → is_none b.writing ≡ builder_is_finished now
finished_is b s now a view = rw (← view) (rw (finished_at b.writing s.taking a) refl)

-- nothing is taken where nothing is written
pub not_taking : (w : Option Writing) (t : Option Taking) → Agree w t → w ≡ None → t ≡ None
not_taking None None a e = refl
not_taking None (Some t) a e = absurd a
not_taking (Some w) t a e = cc

-- ---- what is begun

content_at : (b : Buffered) (s : Spaced) (w : Option Writing) (t : Option Taking) → b.writing ≡ w → s.taking ≡ t → Agree w t
    → content_of (builder_view b s) ≡ record { sections = buffered_content b; spaces = taken s.settled s.taking }
content_at b s None None e f a = rw (e, f) refl
content_at b s None (Some t) e f a = absurd a
content_at b s (Some w) None e f a = absurd a
content_at b s (Some w) (Some t) e f a = rw (e, f) refl

pub content_is : (b : Buffered) (s : Spaced) → Agree b.writing s.taking → content_of (builder_view b s)
    ≡ record { sections = buffered_content b; spaces = taken s.settled s.taking }
content_is b s a = content_at b s b.writing s.taking refl refl a

pub count_is : (b : Buffered) (spaces : List Namespace) (undo : Option Undo) (now : State) (k : Space) → Agree b.writing (spaced spaces undo).taking
    → builder_view b (spaced spaces undo) ≡ now → (namespace_at spaces k).count ≡ count_in now k
count_is b spaces undo now k a view =
    let content = content_is b (spaced spaces undo) a in
    let same : (content_of now).spaces ≡ spaces =
    sym (ap (λ (s : State). (content_of s).spaces) view) ∙ ap (λ (x : Content). x.spaces) content ∙ taken_is spaces undo in
    ap (λ (xs : List Namespace). (namespace_at xs k).count) (sym same)

appended_at : (b : Buffered) (s : Spaced) (text : List ℕ) (w : Option Writing) (t : Option Taking) → b.writing ≡ w → s.taking ≡ t → Agree w t
    → builder_view (buffer_appended b text) s ≡ item_appended (builder_view b s) text
appended_at b s text None t e f a = rw e refl
appended_at b s text (Some w) None e f a = absurd a
appended_at b s text (Some w) (Some t) e f a = rw (e, f) refl

pub appended_is : (b : Buffered) (s : Spaced) (text : List ℕ) → Agree b.writing s.taking
    → builder_view (buffer_appended b text) s ≡ item_appended (builder_view b s) text
appended_is b s text a = appended_at b s text b.writing s.taking refl refl a

still_agree_at : (w : Option Writing) (t : Option Taking) (b : Buffered) (text : List ℕ) → b.writing ≡ w → Agree w t → Agree (buffer_appended b text).writing t
still_agree_at None t b text e a = rw e a
still_agree_at (Some w) None b text e a = absurd a
still_agree_at (Some w) (Some t) b text e a = rw e tt

pub still_agree : (b : Buffered) (s : Spaced) (text : List ℕ) → Agree b.writing s.taking → Agree (buffer_appended b text).writing s.taking
still_agree b s text a = still_agree_at b.writing s.taking b text refl a

pub ended_is : (b : Buffered) (s : Spaced) → Agree b.writing s.taking → builder_view (buffer_ended b) (spaces_ended s) ≡ item_ended (builder_view b s)
ended_is b s a = rw (content_is b s a) refl

pub ended_view : (b new : Buffered) (spaces : List Namespace) (undo : Option Undo) (now : State) → Agree b.writing (spaced spaces undo).taking
    → builder_view b (spaced spaces undo) ≡ now → new ≡ buffer_ended b → builder_view new (spaced spaces None) ≡ item_ended now
ended_view b new spaces undo now a view e =
    ap (λ (x : Buffered). builder_view x (spaced spaces None)) e ∙ ap (λ (x : Spaced). builder_view (buffer_ended b) x) (ended_spaces spaces undo)
    ∙ ended_is b (spaced spaces undo) a ∙ ap (λ (x : State). item_ended x) view

-- the open section, with more bytes of the item
pub appended_section : (b : Buffered) (s : Spaced) (now : State) (text : List ℕ) → Agree b.writing s.taking → builder_view b s ≡ now
    → (content_of (item_appended now text)).sections ≡ buffered_content (buffer_appended b text)
appended_section b s now text a view =
    let same : builder_view (buffer_appended b text) s ≡ item_appended now text = appended_is b s text a ∙ ap (λ (n : State). item_appended n text) view in
    let content = content_is (buffer_appended b text) s (still_agree b s text a) in
    ap (λ (c : Content). c.sections) (sym (ap (λ (n : State). content_of n) same) ∙ content)

-- ---- what is added to it

module _ (b : Buffered) (s : Spaced) (now : State) (agree : Agree b.writing s.taking) (view : builder_view b s ≡ now) where
  longer_view : (text : List ℕ) → builder_view (buffer_appended b text) s ≡ item_appended now text
  longer_view text = appended_is b s text agree ∙ ap (λ (n : State). item_appended n text) view

  there : (cause : Fault → Type 0) (text : List ℕ) (fault : Fault) → either cause (NoRoom (section_appended b text)) fault
      → either cause (no_room_in_section now text) fault
  there cause text fault c = subst (λ (k : SectionsState). either cause (NoRoom k.current) fault) (sym (appended_section b s now text agree view)) c

  back : (cause : Fault → Type 0) (text : List ℕ) (fault : Fault) → either cause (no_room_in_section now text) fault
      → either cause (NoRoom (section_appended b text)) fault
  back cause text fault c = subst (λ (k : SectionsState). either cause (NoRoom k.current) fault) (appended_section b s now text agree view) c

  pub appended_value : (new : Buffered) (outcome : Result (Unit {0}) Fault) (p : Piece)
      → Extends b new (buffer_appended b p.text) outcome p (NoRoom (section_appended b p.text))
      → Extends now (builder_view new s) (item_appended now p.text) outcome p (no_room_in_section now p.text)
  appended_value new (Ok u) p a = record {
    ok = rw a.ok (longer_view p.text);
    fits = a.fits;
    free =
        λ fault c. a.free fault (back p.Cause p.text fault c);
    err = tt;
    warranted = tt;
  }
  appended_value new (Err f) p a =
      record { ok = tt; fits = tt; free = tt; err = rw a.err view; warranted = still_warranted _ _ (there p.Cause p.text) f a.warranted }

  pub appended_list : {S B : Type 0} (steps : S → Option B → S → Type 0) (values : S) (new : Buffered) (outcome : Result (Unit {0}) Fault)
      (piece : List B → Piece)
      → ExtendsListed steps values b new outcome (buffer_appended b) (λ bytes. NoRoom (section_appended b bytes)) piece
      → ExtendsListed steps values now (builder_view new s) outcome (item_appended now) (no_room_in_section now) piece
  appended_list steps values new (Ok u) piece a =
      let e = a.ok.3 in
      let p : Piece = piece a.ok.0.items in
      record {
        ok = (
          a.ok.0,
          a.ok.1,
          a.ok.2,
          record {
            state = rw e.state (longer_view p.text);
            fits = e.fits;
            free =
                λ fault c. e.free fault (back p.Cause p.text fault c);
          },
        );
        err = tt;
        warranted = tt;
      }
  appended_list steps values new (Err f) piece a =
      let p : Piece = piece a.warranted.0.items in
      record { ok = tt; err = rw a.err view; warranted = (a.warranted.0, a.warranted.1, still_warranted _ _ (there p.Cause p.text) f a.warranted.2) }
