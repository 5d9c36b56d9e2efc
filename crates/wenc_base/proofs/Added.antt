-- A member that is made of values which an iterator gives, and how a holder takes it.
use Rattle.std.proofs.Common.{◌≡◌, ℕ, ◌+◌, ◌-◌, ◌≤◌, true, false, List, [], ◌++◌, length, take, drop, Option, Some, None, Result, Ok, Err}
use Rattle.std.proofs.Common.{IsErrAnd, refl, ap, ◌∙◌, ◌⊎◌, inl, inr, arith, ◌^◌, ◌<◌, min, length-append}
use Rattle.std.proofs.lemmas.List.{append-nil, take-append-le, drop-append-le, drop-take, length-take, take-take}
use Rattle.std.specs.Iterator.Runs.{SomeRun, WholeRun}
use Rattle.wenc_base.specs.Prelude.{AddCause, AddsListed, Appended, ExtendsListed, Fault}
use Rattle.wenc_base.specs.Prelude.{HolderState, IsWarranted, NoCause, OneMoreCause, Opening, Piece}
use Rattle.wenc_base.specs.Prelude.{closed_as_it_is, content_size, either, holding, is_finished}
use Rattle.wenc_base.specs.Prelude.{member_appended, member_begun, member_ended, member_given_up}
use Rattle.wenc_base.specs.Prelude.{no_room_in_holder, with_member}
use Rattle.wenc_base.specs.declared.fault.Fault.TheVariants.{Memory, TooMany, TooLarge, Unfinished}
use Rattle.wenc_base.specs.laws.Members.{opened_back}
use Rattle.wenc_base.proofs.Groups.{size_monotone}
use Rattle.wenc_base.proofs.Members.{still_warranted}
use Rattle.wenc_base.proofs.Runs.{no_run}

-- its own cause is one of the call
own_cause : (old : HolderState) (text : List ℕ) (cause : Fault → Type 0) (fault : Fault) → IsWarranted cause fault → IsWarranted (AddCause old text cause) fault
own_cause old text cause = still_warranted cause (AddCause old text cause) (λ f h. inl h)

-- what has no room with fewer bytes has none with more
still_one_more : (count size more : ℕ) → size ≤ more → (fault : Fault) → OneMoreCause count size fault → OneMoreCause count more fault
still_one_more count size more le (Memory e) h = h
still_one_more count size more le TooMany h = h
still_one_more count size more le TooLarge h = omega arith
still_one_more count size more le Unfinished h = h

no_room_for_more : (old : HolderState) (text : List ℕ) (cause : Fault → Type 0) (fault : Fault) → AddCause old [] (λ _. ⊥) fault → AddCause old text cause fault
no_room_for_more old text cause fault h = elim h [
  | inl own ↦ absurd own
  | inr more ↦ elim more [
    | inl count ↦ inr (inl (still_one_more old.count (length (old.body ++ [])) (length (old.body ++ text))
        (omega (arith, length-append old.body text, length-append old.body [])) fault count))
    | inr stopped ↦ inr (inr stopped)
  ]
]

-- a member that is opened, written and ended is one more
ended_is_more : (h : HolderState) (text : List ℕ) → is_finished h ≡ true → member_ended (member_appended (member_begun h []) text) ≡ with_member h text
ended_is_more h text finished = rw (append-nil h.body) (closed_as_it_is (with_member h text) finished)

module _ {S B : Type 0} (steps : S → Option B → S → Type 0) (s : S) (piece : List B → Piece) (old new : HolderState) where
  abbrev Adds : Result (Unit {0}) Fault → Type 0
  Adds outcome = AddsListed steps s piece old new outcome

  -- what was written after the body
  abbrev Came : List ℕ → Type 0
  Came body = WholeRun steps s (λ p. Appended old.body (piece p.items) body)

  -- a call that is refused
  refused : (outcome : Result (Unit {0}) Fault) (fault : Fault) → IsErrAnd outcome (λ e. e ≡ fault) → new ≡ old
      → SomeRun steps s (λ p. IsWarranted (AddCause old (piece p.items).text (piece p.items).Cause) fault)
      → (is_finished old ≡ false → fault ≡ Unfinished) → Adds outcome
  refused (Ok u) fault e same h first = absurd e
  refused (Err other) fault e same h first = rw e (record { ok = tt; err = same; warranted = h; unfinished_first = λ f. rw (first f) refl })

  pub unfinished_listed : is_finished old ≡ false → new ≡ old → Adds (Err Unfinished)
  unfinished_listed f same =
      refused (Err Unfinished) Unfinished refl same (no_run steps s (λ vs. AddCause old (piece vs).text (piece vs).Cause Unfinished)
      (inr (inr (refl, f)))) (λ g. refl)

  -- before a member is opened
  pub not_opened : (fault told : Fault) (lead : Piece) → new ≡ old → is_finished old ≡ true
      → IsWarranted (AddCause old [] (λ _. ⊥)) fault → (told ≡ fault) ⊎ IsWarranted lead.Cause told
      → ((f : Fault) → lead.Cause f → (piece []).Cause f) → Adds (Err told)
  not_opened fault told lead same f h t of_lead =
      refused (Err told) told refl same (no_run steps s (λ vs. IsWarranted (AddCause old (piece vs).text (piece vs).Cause) told) (warranted t)) (λ g. absurd cc)
    where
      warranted : (told ≡ fault) ⊎ IsWarranted lead.Cause told → IsWarranted (AddCause old (piece []).text (piece []).Cause) told
      warranted (inl e) = rw e (still_warranted (AddCause old [] (λ _. ⊥)) (AddCause old (piece []).text (piece []).Cause)
          (no_room_for_more old (piece []).text (piece []).Cause) fault h)
      warranted (inr own) = own_cause old (piece []).text (piece []).Cause told (still_warranted lead.Cause (piece []).Cause of_lead told own)

  module _ (mid : HolderState) (f : is_finished old ≡ true) where
    abbrev Grown : Result (Unit {0}) Fault → Type 0
    Grown outcome = ExtendsListed steps s (member_begun old []) mid outcome (member_appended (member_begun old []))
        (no_room_in_holder (member_begun old [])) piece

    -- the opened member was written, and ended
    pub opened_and_ended : NoCause (AddCause old [] (λ _. ⊥)) → Grown (Ok tt) → new ≡ member_ended mid → Adds (Ok tt)
    opened_and_ended free a e = record {
      ok = (a.ok.0, a.ok.1, a.ok.2, record { state = e ∙ ap member_ended a.ok.3.state ∙ ended_is_more old p.text f; fits = a.ok.3.fits; free = none });
      err = tt;
      warranted = tt;
      unfinished_first = λ g. absurd cc;
    }
      where
        p : Piece
        p = piece a.ok.0.items

        none : NoCause (AddCause old p.text p.Cause)
        none fault h = elim h [
          | inl own ↦ a.ok.3.free fault (inl own)
          | inr more ↦ elim more [
            | inl count ↦ counted fault count
            | inr stopped ↦ absurd cc
          ]
        ]
          where
            counted : (fault : Fault) → OneMoreCause old.count (length (old.body ++ p.text)) fault → ⊥
            counted (Memory e) h = h
            counted TooMany h = free TooMany (inr (inl h))
            counted TooLarge h = a.ok.3.free TooLarge (inr (refl, rw (append-nil old.body) h))
            counted Unfinished h = h

    -- it was refused, and given up
    pub opened_and_given_up : (fault : Fault) → Grown (Err fault) → new ≡ member_given_up mid → Adds (Err fault)
    opened_and_given_up fault a e =
        refused (Err fault) fault refl (e ∙ ap member_given_up a.err ∙ opened_back old [] f) (
          a.warranted.0,
          a.warranted.1,
          still_warranted (either p.Cause (no_room_in_holder (member_begun old []) p.text))
              (AddCause old p.text p.Cause) among fault a.warranted.2,
        )
        (λ g. absurd cc)
      where
        p : Piece
        p = piece a.warranted.0.items

        among : (f : Fault) → either p.Cause (no_room_in_holder (member_begun old []) p.text) f → AddCause old p.text p.Cause f
        among f h = elim h [
          | inl own ↦ inl own
          | inr large ↦ inr (inl (rw large.0 (rw (append-nil old.body) at large.1)))
        ]

-- what stands before the written bytes
pub came_after : {S B : Type 0} (steps : S → Option B → S → Type 0) (s : S) (piece : List B → Piece) (kept : ℕ) (before after : List ℕ) → kept ≤ length before
    → WholeRun steps s (λ p. Appended before (piece p.items) after) → take kept after ≡ take kept before
came_after steps s piece kept before after le came = rw came.3.items (take-append-le kept before (piece came.0.items).text le)

-- what follows the first bytes, where more was written
pub came_behind : {S B : Type 0} (steps : S → Option B → S → Type 0) (s : S) (piece : List B → Piece) (kept : ℕ) (before after : List ℕ) → kept ≤ length before
    → WholeRun steps s (λ p. Appended before (piece p.items) after) → WholeRun steps s (λ p. Appended (drop kept before) (piece p.items) (drop kept after))
came_behind steps s piece kept before after le came = (
  came.0,
  came.1,
  came.2,
  record {
    items = rw came.3.items (drop-append-le kept before (piece came.0.items).text le);
    fits = came.3.fits;
    no_cause = came.3.no_cause;
  },
)

-- the first bytes of the body, after those that are kept
module _ (before after : List ℕ) (kept : ℕ) where
  cut_length : (bytes : ℕ) → after ≡ take (kept + bytes) before → kept ≤ length before → kept ≤ length after
  cut_length bytes e le = rw e (let long : length (take (kept + bytes) before) ≡ min (kept + bytes) (length before) =
      length-take (kept + bytes) before in omega (arith, long))

  pub cut_fits : (count len bytes : ℕ) → after ≡ take (kept + bytes) before → kept ≤ length before
      → content_size count (length (drop kept before)) < 2 ^ 32 → len ≤ count
      → (kept ≤ length after) × (content_size len (length (drop kept after)) < 2 ^ 32)
  cut_fits count len bytes e le fits fewer =
      let size : length (drop kept after) ≡ min bytes (length (drop kept before)) =
      rw (e, drop-take kept bytes before) (length-take bytes (drop kept before)) in
      (cut_length bytes e le, omega (arith, size, size_monotone len count fewer))

  pub cut_view : (len bytes : ℕ) (opening : Option Opening) → after ≡ take (kept + bytes) before → kept ≤ length before
      → let h : HolderState = record { kept = take kept after; count = len; body = drop kept after; opening = opening } in
      h ≡ record { kept = take kept before; count = len; body = take bytes (drop kept before); opening = opening }
  cut_view len bytes opening e le = rw (e, drop-take kept bytes before, take-take kept (kept + bytes) before (omega arith)) refl

  -- and the member that began after them is given up
  pub given_up_view : (count len : ℕ) (opening : Option Opening) (o : Opening) (h : HolderState)
      → after ≡ take (kept + o.member_start) before → kept ≤ length before
      → record { kept = take kept before; count = count; body = drop kept before; opening = opening } ≡ h → opening ≡ Some o → len ≡ count - 1
      → holding (take kept after) len (drop kept after) ≡ member_given_up h
  given_up_view count len opening o h e le view is fewer = rw (← view, is, fewer) (cut_view (count - 1) o.member_start None e le)
