-- What parents that keep a holder, or another parent, owe: that what is done to it is done to them.
use Rattle.std.proofs.Common.{◌≡◌, ℕ, List, map, Option, Result, Ok, Err, inl, inr, ap, sym, subst, ◌∙◌}
use Rattle.std.proofs.iter.runs.Made.{seen}
use Rattle.std.specs.Iterator.Runs.{SomeRun, EachRunFrom}
use Rattle.wenc_base.specs.Prelude.{Extends, ExtendsListed, Fault, MakesWhole, NoCause, Piece}
use Rattle.wenc_base.specs.Prelude.{Serves, either, either_free, left_free, right_free}
use Rattle.wenc_base.specs.Prelude.{still_warranted}

module _ {T U : Type 0} (around : T → U) where
  pub carried : {p : Piece} (old new next : T) (outcome : Result (Unit {0}) Fault)
      (refuses : Fault → Type 0) → Extends old new next outcome p refuses
      → Extends (around old) (around new) (around next) outcome p refuses
  carried old new next (Ok u) refuses a =
      record { ok = ap around a.ok; fits = a.fits; free = a.free; err = tt; warranted = tt }
  carried old new next (Err f) refuses a =
      record { ok = tt; fits = tt; free = tt; err = ap around a.err; warranted = a.warranted }

  pub carried_list : {S B : Type 0} (steps : S → Option B → S → Type 0) (values : S) (old new : T)
      (outcome : Result (Unit {0}) Fault) (next : List ℕ → T)
      (refuses : List ℕ → Fault → Type 0) (piece : List B → Piece)
      → ExtendsListed steps values old new outcome next refuses piece
      → ExtendsListed steps values (around old) (around new) outcome
      (λ bytes. around (next bytes)) refuses piece
  carried_list steps values old new (Ok u) next refuses piece a = record {
    ok = let e = a.ok.3 in (a.ok.0, a.ok.1, a.ok.2, record { state = ap around e.state; fits = e.fits; free = e.free });
    err = tt;
    warranted = tt;
  }
  carried_list steps values old new (Err f) next refuses piece a =
      record { ok = tt; err = ap around a.err; warranted = a.warranted }

room_free : {p q : Piece} (refuses : List ℕ → Fault → Type 0) → Serves p q
    → NoCause (either p.Cause (refuses p.text)) → NoCause (either q.Cause (refuses q.text))
room_free {p} {q} refuses s none =
    either_free (s.free (left_free none)) (rw s.text at (right_free {one = p.Cause} none))

room_among : {p q : Piece} (refuses : List ℕ → Fault → Type 0) → Serves p q → (fault : Fault)
    → either p.Cause (refuses p.text) fault → either q.Cause (refuses q.text) fault
room_among refuses s fault c = elim c [ inl own ↦ inl (s.among fault own) | inr large ↦ inr (rw s.text at large) ]

-- a piece that was added for another
pub extends_for : {T : Type 0} {p q : Piece} (old new : T) (outcome : Result (Unit {0}) Fault)
    (next : List ℕ → T) (refuses : List ℕ → Fault → Type 0) → Serves p q
    → Extends old new (next p.text) outcome p (refuses p.text)
    → Extends old new (next q.text) outcome q (refuses q.text)
extends_for old new (Ok u) next refuses s a =
    record {
      ok = a.ok ∙ ap next s.text;
      fits = s.fits a.fits;
      free =
          room_free refuses s a.free;
      err = tt;
      warranted = tt;
    }
extends_for old new (Err f) next refuses s a =
    record {
      ok = tt;
      fits = tt;
      free = tt;
      err = a.err;
      warranted =
          still_warranted _ _ (room_among refuses s) f a.warranted;
    }

-- a piece of the values that an iterator gives, which was added for another
pub extends_as : {T S B : Type 0} (steps : S → Option B → S → Type 0) (values : S) (old new : T)
    (outcome : Result (Unit {0}) Fault)
    (next : List ℕ → T) (refuses : List ℕ → Fault → Type 0) (one other : List B → Piece)
    → ((vs : List B) → Serves (one vs) (other vs))
    → ExtendsListed steps values old new outcome next refuses one
    → ExtendsListed steps values old new outcome next refuses other
extends_as steps values old new (Ok u) next refuses one other serve a = record {
  ok = let e = a.ok.3 in
      let s = serve a.ok.0.items in (
        a.ok.0,
        a.ok.1,
        a.ok.2,
        record {
          state = e.state ∙ ap next s.text;
          fits =
              s.fits e.fits;
          free = room_free refuses s e.free;
        },
      );
  err = tt;
  warranted = tt;
}
extends_as steps values old new (Err f) next refuses one other serve a = record {
  ok = tt;
  err = a.err;
  warranted = let run = a.warranted.0 in (
    run,
    a.warranted.1,
    still_warranted _ _ (room_among refuses (serve run.items)) f
        a.warranted.2,
  );
}

-- values that another iterator makes of those that one gives
pub made_of : {T S R B C : Type 0} (steps : S → Option B → S → Type 0) (values : S)
    (making : R → Option C → R → Type 0) (made : R) (old new : T)
    (outcome : Result (Unit {0}) Fault)
    (next : List ℕ → T) (refuses : List ℕ → Fault → Type 0) (piece : List C → Piece) (make : B → C)
    → EachRunFrom making made (λ p. SomeRun steps values (λ q. (q.whole ≡ p.whole) × (p.items ≡ map make q.items)))
    → ExtendsListed making made old new outcome next refuses piece
    → ExtendsListed steps values old new outcome next refuses (λ vs. piece (map make vs))
made_of steps values making made old new (Ok u) next refuses piece make runs a = record {
  ok = let p = a.ok.0 in
      let q = runs p (seen p.len) a.ok.1 in
      (q.0, q.1, q.2.0 ∙ a.ok.2, rw q.2.1 at a.ok.3);
  err = tt;
  warranted = tt;
}
made_of steps values making made old new (Err f) next refuses piece make runs a = record {
  ok = tt;
  err = a.err;
  warranted =
      let p = a.warranted.0 in
      let q = runs p (seen p.len) a.warranted.1 in
      (q.0, q.1, rw q.2.1 at a.warranted.2);
}

-- what serves makes a member whole where that does which it serves as
pub whole_for : {T : Type 0} {p q : Piece} (is_whole : T → Type 0) (appended : T → List ℕ → T)
    (x : T) → Serves p q → MakesWhole is_whole appended x q → MakesWhole is_whole appended x p
whole_for is_whole appended x s whole fits =
    subst (λ (t : List ℕ). ∥ is_whole (appended x t) ∥₁) (sym s.text) (whole (s.fits fits))
