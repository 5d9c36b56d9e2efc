-- What encoders are owed by a builder, and what they leave in it.
use Rattle.std.proofs.Common.{◌≡◌, ℕ, List, ◌++◌, append_assoc, true, false, is_none, Option, None, Some, refl, ap}
use Rattle.wenc_builder.specs.Entry.{Entry}
use Rattle.wenc_builder.specs.Builder.{BegunItem, State, builder_is_finished, NewItem, item_begun}
use Rattle.wenc_builder.specs.Builder.{begun_appended, item_appended, item_given_up}
use Rattle.wenc_builder.specs.Holds.{Holds}
use Rattle.wenc_builder.specs.ParentState.{item_is_opened, builder_is_opened}

bare_is_begun_at : (b : Option BegunItem) → item_is_opened b ≡ true → is_none b ≡ false
bare_is_begun_at None e = cc
bare_is_begun_at (Some b) e = refl

pub opened_is_begun : (s : State) → builder_is_opened s ≡ true → builder_is_finished s ≡ false
opened_is_begun s e = bare_is_begun_at s.begun e

still_begun_at : (b : Option BegunItem) (text : List ℕ) → is_none b ≡ false → is_none (begun_appended b text) ≡ false
still_begun_at None text e = cc
still_begun_at (Some b) text e = refl

pub still_begun : (s : State) (text : List ℕ) → builder_is_finished s ≡ false
    → builder_is_finished (item_appended s text) ≡ false
still_begun s text e = still_begun_at s.begun text e

longer_twice : (b : Option BegunItem) (text more : List ℕ)
    → begun_appended (begun_appended b text) more ≡ begun_appended b (text ++ more)
longer_twice None text more = refl
longer_twice (Some b) text more = ap (λ (t : List ℕ). let longest : BegunItem =
    record { id = b.id; text = t; space = b.space; after = b.after } in Some longest)
    (append_assoc b.text text more)

pub item_appended_twice : (s : State) (text more : List ℕ)
    → item_appended (item_appended s text) more ≡ item_appended s (text ++ more)
item_appended_twice s text more = ap (λ (b : Option BegunItem). let t : State =
    record { settled = s.settled; begun = b } in t) (longer_twice s.begun text more)

-- An item that was begun and given up, whatever was written of it: what was held is held.
pub begun_given_up : (old parent new : State) (es : List Entry) (d : NewItem)
    → parent ≡ item_begun old d → new ≡ item_given_up parent → Holds old es → Holds new es
begun_given_up old parent new es d b e h =
    rw (e, b) (record { finished = refl; sections = h.sections; spaces = h.spaces; fits = h.fits })

pub written_given_up : (old parent new : State) (es : List Entry) (d : NewItem) (text : List ℕ)
    → parent ≡ item_appended (item_begun old d) text → new ≡ item_given_up parent → Holds old es
    → Holds new es
written_given_up old parent new es d text b e h =
    rw (e, b) (record { finished = refl; sections = h.sections; spaces = h.spaces; fits = h.fits })
