-- A type that is begun on a builder and written by an encoder.
use Rattle.std.specs.Option.{option_map}
use Rattle.std.proofs.Common.{◌≡◌, ℕ, List, [], ◌∷◌, ◌++◌, Ok, Err, Option, Some, refl, sym, ap, subst, ◌∙◌}
use Rattle.wenc_base.specs.Prelude.{IsWarranted, NoCause, either, itself_among, still_warranted}
use Rattle.wenc_builder.specs.Prelude.{BeginCause, Entry, EntryCause, Holds, Indices, NewItem}
use Rattle.wenc_builder.specs.Prelude.{State, begun_given_up, item, item_appended, item_begun}
use Rattle.wenc_builder.specs.Prelude.{item_ended, item_given_up, items, next_index}
use Rattle.wenc_builder.specs.Prelude.{no_room_in_section}
use Rattle.wenc_base.specs.declared.fault.Fault.{Fault}
use Rattle.wenc_builder.specs.laws.Typed.{IsWrittenType, WritingCause, opening_due, writing_due, written_free, written_holds}
use Rattle.wasm_encoder.specs.Prelude.{Add, Answers, StepsLeft}
use Rattle.wasm_encoder.specs.Ran.{IsTyped}
use Rattle.wasm_encoder.proofs.Called.{refusal, due}

-- why an item can't be written and ended by what was parent
abbrev EndingCause : State → Entry → Fault → Type 0
EndingCause parent x = either (item x.item).Cause (no_room_in_section parent (item x.item).text)

-- an item that was begun, written and ended, and was refused nowhere, is one entry more
pub written_whole : (old parent new : State) (es : List Entry) (x : Entry) (d : NewItem) → IsWrittenType x d → parent ≡ item_begun old d
    → NoCause (BeginCause old d) → new ≡ item_ended (item_appended parent (item x.item).text)
    → (item x.item).Fits → NoCause (EndingCause parent x) → Holds old es → Holds new (es ++ x ∷ [])
written_whole old parent new es x d w begun opens wrote fits writes h =
    written_holds old new es x d w opens fits (subst (λ (s : State). NoCause (EndingCause s x)) begun writes)
    (subst (λ (s : State). new ≡ item_ended (item_appended s (item x.item).text)) begun wrote) h

pub type_accepted : (old parent new last : State) (index : ℕ) (x : Entry) (d : NewItem) → IsWrittenType x d → parent ≡ item_begun old d
    → ((es : List Entry) → Holds old es → index ≡ next_index (items es) d.space)
    → NoCause (BeginCause old d) → new ≡ item_ended (item_appended parent (item x.item).text) → (item x.item).Fits → NoCause (EndingCause parent x)
    → last ≡ new → Answers old last (Ok (Some index)) (Add x)
type_accepted old parent new last index x d w begun indexed opens wrote fits writes same = due old last (Ok (Some index)) (Add x) (λ es h. (
  x ∷ [],
  EntryCause es x,
  refl,
  itself_among,
  (
    written_whole old parent last es x d w begun opens (same ∙ wrote) fits writes h,
    subst (λ (o : Option _). Some index ≡ option_map (λ (d : Indices). next_index (items es) d.space) o) (sym w.defined)
        (ap (λ (n : ℕ). Some n) (indexed es h)),
    written_free old es x d w h opens (subst (λ (s : State). NoCause (EndingCause s x)) begun writes),
  ),
))

pub opening_refused : (old new : State) (fault : Fault) (x : Entry) (d : NewItem) → IsWrittenType x d → new ≡ old
    → IsWarranted (BeginCause old d) fault → Answers old new (Err fault) (Add x)
opening_refused old new fault x d w same why = due old new (Err fault) (Add x)
    (λ es h. (
      x ∷ [],
      EntryCause es x,
      refl,
      itself_among,
      (rw same h, refusal es x fault (still_warranted _ _ (opening_due old es x d w h) fault why)),
    ))

pub type_refused : (old parent new last : State) (fault : Fault) (x : Entry) (d : NewItem) → IsTyped x.item → IsWrittenType x d → parent ≡ item_begun old d
    → IsWarranted (EndingCause parent x) fault → new ≡ parent → last ≡ new → StepsLeft old last fault (Add x)
type_refused old parent new last fault x d typed w begun why unwritten same = record {
  stops = record {
    entry = x;
    adds = refl;
    typed = typed;
    refused = λ es h.
        let own : IsWarranted (WritingCause old x d) fault = subst (λ (s : State). IsWarranted (EndingCause s x) fault) begun why in
        refusal es x fault (still_warranted _ _ (writing_due old es x d w h) fault own);
    kept = λ es h. begun_given_up old last (item_given_up last) es d (same ∙ unwritten ∙ begun) refl h;
  };
}
