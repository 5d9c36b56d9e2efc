-- What an item that is begun and then written owes to its entry's cause.
use Rattle.std.proofs.Common.{◌≡◌, ℕ, List, [], ◌∷◌, ◌++◌, Option, Some, refl, sym, ap, subst, ◌∙◌, inl, inr}
use Rattle.wenc_base.specs.Prelude.{NoCause, either}
use Rattle.wenc_types.specs.Prelude.{CoreType, DefType}
use Rattle.wenc_base.specs.declared.fault.Fault.{Fault}
use Rattle.wenc_builder.specs.Prelude.{BeginCause, CallCause, Content, Entry, EntryCause, Holds}
use Rattle.wenc_builder.specs.Prelude.{Indices, NewItem, State, collected, content_of}
use Rattle.wenc_builder.specs.Prelude.{core_type_entry, defines, item, item_appended, item_begun}
use Rattle.wenc_builder.specs.Prelude.{item_ended, new_item, new_item_in, new_item_indices}
use Rattle.wenc_builder.specs.Prelude.{no_room_in_section, step, type_entry, with_entry}
use Rattle.wenc_parts.specs.declared.component.ComponentSectionId.TheVariants as ids
use Rattle.wenc_sections.specs.declared.space.Space.TheVariants as spaces
use Rattle.wenc_builder.specs.laws.Answered.{to_entry, from_entry}
use Rattle.wenc_builder.specs.laws.Fits.{HasRoom}
use Rattle.wenc_builder.specs.laws.Step.{holds_step}
use Rattle.wenc_builder.specs.laws.Caused.{beginning_refuses, text_refuses, whole_free}

-- the content with a new item is the one with the entry that it is
pub new_item_of_list : (old : State) (x : Entry) (d : NewItem) → collected x.item ≡ Some d.id
    → defines x.item ≡ Some (new_item_indices d) → x.name ≡ d.name → (item x.item).text ≡ d.text
    → content_of (item_begun old d) ≡ with_entry old.settled x
new_item_of_list old x d section defined named bytes = rw (section, defined, named, bytes) refl

-- an item that is begun as this, with nothing of it written yet, and then written whole, is
-- this entry
pub record IsWrittenType (x : Entry) (d : NewItem) : Type 0 where
  pub bare : d.text ≡ []
  pub section : collected x.item ≡ Some d.id
  pub defined : defines x.item ≡ Some (new_item_indices d)
  pub named : x.name ≡ d.name

-- why it can't be written then
abbrev pub WritingCause : State → Entry → NewItem → Fault → Type 0
WritingCause old x d = either (item x.item).Cause (no_room_in_section (item_begun old d) (item x.item).text)

module _ (old : State) (es : List Entry) (x : Entry) (d : NewItem) (w : IsWrittenType x d) (h : Holds old es) where
  -- the new item with its text, and the one that it is without
  abbrev whole : NewItem
  whole = new_item d.id d.space d.name (item x.item).text

  bare_is : d ≡ new_item d.id d.space d.name []
  bare_is = ap (λ (t : List ℕ). new_item d.id d.space d.name t) w.bare

  content_is : content_of (item_begun old whole) ≡ with_entry old.settled x
  content_is = new_item_of_list old x whole w.section w.defined w.named refl

  abbrev WholeCause : Fault → Type 0
  WholeCause = CallCause old (item x.item).Cause (content_of (item_begun old whole)) (Some (new_item_indices whole))

  to_whole : (fault : Fault) → EntryCause es x fault → WholeCause fault
  to_whole fault c =
      let P : Content → Type 0 = λ k. CallCause old (item x.item).Cause k (defines x.item) fault in
      let Q : Option Indices → Type 0 =
      λ k. CallCause old (item x.item).Cause (content_of (item_begun old whole)) k fault in
      subst Q w.defined (subst P (sym content_is) (from_entry old es x h fault c))

  from_whole : (fault : Fault) → WholeCause fault → EntryCause es x fault
  from_whole fault c =
      let P : Content → Type 0 = λ k. CallCause old (item x.item).Cause k (defines x.item) fault in
      let Q : Option Indices → Type 0 =
      λ k. CallCause old (item x.item).Cause (content_of (item_begun old whole)) k fault in
      to_entry old es x h fault (subst P content_is (subst Q (sym w.defined) c))

  -- what refuses its beginning is the entry's cause
  pub opening_due : (fault : Fault) → BeginCause old d fault → EntryCause es x fault
  opening_due fault c =
      from_whole fault (beginning_refuses old d.id d.space d.name (item x.item).text
      (item x.item).Cause fault (subst (λ (e : NewItem). BeginCause old e fault) bare_is c))

  -- what refuses its text too
  pub writing_due : (fault : Fault) → WritingCause old x d fault → EntryCause es x fault
  writing_due fault c = from_whole fault
      (text_refuses old whole (item x.item).Cause fault (subst
      (λ (e : NewItem). WritingCause old x e fault) bare_is c))

  -- and where neither is refused, the entry has no cause
  pub written_free : ((fault : Fault) → BeginCause old d fault → ⊥)
      → ((fault : Fault) → WritingCause old x d fault → ⊥) → (fault : Fault)
      → EntryCause es x fault → ⊥
  written_free opening writing fault c =
      whole_free old d.id d.space d.name (item x.item).text (item x.item).Cause
      (λ f k. opening f (subst (λ (e : NewItem). BeginCause old e f) (sym bare_is) k))
      (λ f k. writing f (subst (λ (e : NewItem). WritingCause old x e f) (sym bare_is) k))
      fault (to_whole fault c)

-- an item that was begun, written and ended, and was refused nowhere, is one entry more
pub written_holds : (old new : State) (es : List Entry) (x : Entry) (d : NewItem)
    → IsWrittenType x d → NoCause (BeginCause old d) → (item x.item).Fits
    → NoCause (WritingCause old x d)
    → new ≡ item_ended (item_appended (item_begun old d) (item x.item).text) → Holds old es → Holds new (es ++ x ∷ [])
written_holds old new es x d w opening fits writing e h = rw (e ∙ is_step) (holds_step old es x fits room h)
  where
    is_step : item_ended (item_appended (item_begun old d) (item x.item).text) ≡ step old x
    is_step = rw (w.section, w.defined, w.named, w.bare) refl

    room : HasRoom (with_entry old.settled x).sections.current
    room fault c = written_free old es x d w h opening writing fault (to_entry old es x h fault (inl (inr (inr c))))

-- types are written so
pub type_is_written : (name : Option (List ℕ)) (t : DefType)
    → IsWrittenType (type_entry name t) (new_item_in ids.«Type» spaces.Types name [])
type_is_written name t = record { bare = refl; section = refl; defined = refl; named = refl }

pub core_type_is_written : (name : Option (List ℕ)) (t : CoreType)
    → IsWrittenType (core_type_entry name t) (new_item_in ids.CoreType spaces.CoreTypes name [])
core_type_is_written name t = record { bare = refl; section = refl; defined = refl; named = refl }
