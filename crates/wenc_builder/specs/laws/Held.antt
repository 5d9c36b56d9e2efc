-- A builder holds some entries, whoever made which calls.
use Rattle.std.proofs.Common.{◌≡◌, ℕ, ◌+◌, List, [], ◌∷◌, ◌++◌, true, false, is_none, Option, Some}
use Rattle.std.proofs.Common.{None, refl, subst, sym, inl, inr}
use Rattle.std.specs.List.{AllByRecursion}
use Rattle.std.proofs.Math.Logic.{∥∥₁_map, ∥∥₁_elim, ∥∥₁_prop}
use Rattle.std.proofs.lemmas.Bool.Decides.{eqb_tells}
use Rattle.std.proofs.lemmas.Option.{same_Some}
use Rattle.wenc_base.specs.Prelude.{NoCause}
use Rattle.wenc_base.specs.declared.fault.Fault.TheVariants.{Memory, TooMany, TooLarge, Unfinished}
use Rattle.wenc_builder.specs.Prelude.{BegunItem, Content, Entry, Holds, Indices, IsItemText, Item}
use Rattle.wenc_builder.specs.Prelude.{NewItem, NoRoom, OpenSection, StartIsNameless, StartItem}
use Rattle.wenc_builder.specs.Prelude.{State, begun_appended, builder_is_finished, collected}
use Rattle.wenc_builder.specs.Prelude.{content_of, content_with, content_with_section, defines}
use Rattle.wenc_builder.specs.Prelude.{entered, entered_at, entry, is_whole, item, item_appended}
use Rattle.wenc_builder.specs.Prelude.{item_begun, item_ended, item_given_up, settled_in, some_in}
use Rattle.wenc_builder.specs.Prelude.{with_entry}
use Rattle.wenc_builder.specs.ParentState.{IsWhole}
use Rattle.wenc_sections.specs.declared.space.Space.TheVariants.{Values}
use Rattle.wenc_sections.specs.Prelude.{Start}
use Rattle.wenc_builder.specs.inside.HoldsSome.{IsIndexed, HasRoomFor, HoldsSome}
use Rattle.wenc_builder.specs.laws.Fits.{HasRoom}
use Rattle.wenc_builder.specs.laws.Step.{holds_step}

abbrev SettledIs : Content → Type 0
SettledIs c = ∥ ((es : List Entry) × Holds (settled_in c) es × AllByRecursion StartIsNameless es) ∥₁

-- what holds a list holds some
pub some_of : (c : Content) (es : List Entry) → Holds (settled_in c) es
    → AllByRecursion StartIsNameless es → HoldsSome (settled_in c)
some_of c es h nameless = record { settled = ∣ (es, h, nameless) ∣₁; indexed = tt; room = tt }

-- ---- starts have no name

one_more : (es : List Entry) (x : Entry) → AllByRecursion StartIsNameless es → StartIsNameless x
    → AllByRecursion StartIsNameless (es ++ x ∷ [])
one_more [] x front last = (last, tt)
one_more (e ∷ es) x front last = (front.0, one_more es x front.1 last)

-- what a section collects is no start
collected_nameless : (v : Item) (id : ℕ) (name : Option (List ℕ)) → collected v ≡ Some id
    → StartIsNameless (entry v name)
collected_nameless v id name collects start e = let never : collected (StartItem start) ≡ Some id =
    subst (λ (x : Item). collected x ≡ Some id) e collects in cc

-- a start takes indices of values
pub start_takes_values : (v : Item) (d : Indices) (start : Start) → defines v ≡ Some d
    → v ≡ StartItem start → d.space ≡ Values
start_takes_values v d start takes e =
    let same : some_in Values start.results ≡ Some d = subst (λ (x : Item). defines x ≡ Some d) e takes in
    subst (λ (k : Indices). k.space ≡ Values) (same_Some _ d same) refl

-- ---- what is held through the calls

some_more : (c : Content) (x : Entry) → StartIsNameless x → (item x.item).Fits
    → HasRoom (with_entry c x).sections.current → SettledIs c → SettledIs (with_entry c x)
some_more c x nameless fits room s =
    ∥∥₁_map s
    (λ h. (
      h.0 ++ x ∷ [],
      holds_step (settled_in c) h.0 x fits room h.1,
      one_more h.0 x h.2 nameless,
    ))

finished_at : (c : Content) (b : Option BegunItem) → is_none b ≡ true → SettledIs c
    → ∥ ((es : List Entry) × Holds (record { settled = c; begun = b }) es
    × AllByRecursion StartIsNameless es) ∥₁
finished_at c None e s = s
finished_at c (Some b) e s = cc

-- what is finished holds some
pub holds_some : (s : State) → builder_is_finished s ≡ true → HoldsSome s
    → ∥ ((es : List Entry) × Holds s es × AllByRecursion StartIsNameless es) ∥₁
holds_some s finished h = finished_at s.settled s.begun finished h.settled

-- an item is begun, in a section that isn't too much
pub some_begun : (s : State) (d : NewItem)
    → HasRoom (entered s.settled.sections d.id d.text).current → HoldsSome s
    → HoldsSome (item_begun s d)
some_begun s d room h = record { settled = h.settled; indexed = ∣ (d.name, refl) ∣₁; room = room }

indexed_longer : (c : Content) (b : Option BegunItem) (text : List ℕ) → IsIndexed c b
    → IsIndexed c (begun_appended b text)
indexed_longer c None text p = tt
indexed_longer c (Some b) text p = p

-- a section with a longer text has as many items
longer_room_at : (id count : ℕ) (body longer_body : List ℕ)
    → HasRoom (Some (record { id = id; count = count; body = body }))
    → NoCause (NoRoom (Some (record { id = id; count = count; body = longer_body })))
    → HasRoom (Some (record { id = id; count = count; body = longer_body }))
longer_room_at id count body longer_body room large (Memory e) c = c
longer_room_at id count body longer_body room large TooMany c = room TooMany c
longer_room_at id count body longer_body room large TooLarge c = large TooLarge (refl, c)
longer_room_at id count body longer_body room large Unfinished c = c

longer_room : (closed : List ℕ) (o : Option OpenSection) (id : ℕ) (text more : List ℕ)
    → HasRoom (entered_at closed o id text).current
    → NoCause (NoRoom (entered_at closed o id more).current) → HasRoom (entered_at closed o id more).current
longer_room closed None id text more room large = longer_room_at id 1 text more room large
longer_room closed (Some o) id text more room large =
    elim (eqb_tells o.id id) [
      | inl t ↦ let room' = rw t.0 at room in let large' = rw t.0 at large in
          rw t.0 (longer_room_at o.id (o.count + 1) (o.body ++ text) (o.body ++ more) room' large')
      | inr t ↦ let room' = rw t.0 at room in let large' =
          rw t.0 at large in rw t.0 (longer_room_at id 1 text more room' large')
    ]

room_longer : (c : Content) (b : Option BegunItem) (text : List ℕ) → HasRoomFor c b
    → NoCause (NoRoom (content_with c (begun_appended b text)).sections.current)
    → HasRoomFor c (begun_appended b text)
room_longer c None text room large = tt
room_longer c (Some b) text room large =
    longer_room c.sections.closed c.sections.current b.id b.text (b.text ++ text) room large

-- more of it is written, for which there is room
pub some_appended : (s : State) (text : List ℕ) → NoCause
    (NoRoom (content_of (item_appended s text)).sections.current) → HoldsSome s
    → HoldsSome (item_appended s text)
some_appended s text large h = record {
  settled = h.settled;
  indexed = indexed_longer s.settled s.begun text h.indexed;
  room = room_longer s.settled s.begun text h.room large;
}

ended_at : (c : Content) (b : Option BegunItem) → SettledIs c → IsIndexed c b → HasRoomFor c b
    → ∥ IsWhole b ∥₁ → SettledIs (content_with c b)
ended_at c None s p room whole = s
ended_at c (Some b) s p room whole = ∥∥₁_elim whole ∥∥₁_prop (λ w. ∥∥₁_elim p ∥∥₁_prop (λ n.
    let one : with_entry c (entry w.value n.0) ≡ content_with c (Some b) =
    rw (w.collects, w.takes, ← w.is, ← n.1) refl in
    let room' = subst (λ (k : Content). HasRoom k.sections.current) (sym one) room in
    subst SettledIs one (some_more c (entry w.value n.0)
    (collected_nameless w.value b.id n.0 w.collects) w.fits room' s)))

-- what is whole is being written
pub whole_is_begun : (s : State) → ∥ is_whole s ∥₁ → builder_is_finished s ≡ false
whole_is_begun s whole = at s.begun whole
  where
    at : (b : Option BegunItem) → ∥ IsWhole b ∥₁ → is_none b ≡ false
    at None w = absurd (∥∥₁_elim w (λ a b. absurd a) (λ n. n))
    at (Some b) w = refl

-- it is ended, whole
pub some_ended : (s : State) → ∥ is_whole s ∥₁ → HoldsSome s → HoldsSome (item_ended s)
some_ended s whole h = record {
  settled =
      ended_at s.settled s.begun h.settled h.indexed h.room whole;
  indexed = tt;
  room = tt;
}

-- or it is given up
pub some_given_up : (s : State) → HoldsSome s → HoldsSome (item_given_up s)
some_given_up s h = record { settled = h.settled; indexed = tt; room = tt }

-- what stands alone is added
pub some_alone : (s : State) (indices : Option Indices) (name : Option (List ℕ)) (text : List ℕ)
    → ((v : Item) → defines v ≡ indices → StartIsNameless (entry v name))
    → ∥ IsItemText None indices text ∥₁ → HoldsSome s
    → HoldsSome (settled_in (content_with_section s.settled indices name text))
some_alone s indices name text nameless whole h = record {
  settled = ∥∥₁_elim whole ∥∥₁_prop (λ w.
      let one : with_entry s.settled (entry w.value name) ≡ content_with_section s.settled indices
      name text = rw (w.collects, w.takes, ← w.is) refl in
      let room = subst (λ (k : Content). HasRoom k.sections.current) (sym one) (λ fault c. c) in
      subst SettledIs one (some_more s.settled (entry w.value name) (nameless w.value w.takes) w.fits room h.settled));
  indexed = tt;
  room = tt;
}
