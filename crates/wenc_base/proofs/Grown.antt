-- What is added to a parent: values that an iterator gives, and what comes in several calls.
use Rattle.std.proofs.Common.{◌≡◌, ℕ, ◌≤◌, ◌<◌, ◌^◌, List, length, Option, Result, Ok, Err, OnOk, OnErr, IfErr, IsErrAnd, refl, ap, ◌∙◌, inl, inr, arith}
use Rattle.std.specs.Iterator.Runs.{SomeRun, WholeRun}
use Rattle.wenc_base.specs.Prelude.{Appended, EndsListed, EndsLists, ExtendsListed, Fault}
use Rattle.wenc_base.specs.Prelude.{HolderState, IsWarranted, Piece, content_size, either}
use Rattle.wenc_base.specs.Prelude.{member_appended, no_room_in_holder}
use Rattle.wenc_base.specs.declared.fault.Fault.TheVariants.{TooLarge}
use Rattle.wenc_base.proofs.Members.{still_warranted}

pub on_err : {A B : Type 0} (outcome : Result (Unit {0}) Fault) → (A → B) → OnErr outcome A → OnErr outcome B
on_err (Ok u) f h = tt
on_err (Err fault) f h = f h

pub on_ok : {A B : Type 0} (outcome : Result (Unit {0}) Fault) → (A → B) → OnOk outcome A → OnOk outcome B
on_ok (Ok u) f h = f h
on_ok (Err fault) f h = tt

pub in_both : {A : Type 0} (outcome : Result (Unit {0}) Fault) → OnOk outcome A → OnErr outcome A → A
in_both (Ok u) ok err = ok
in_both (Err fault) ok err = err

-- ---- in several calls

module _ {T : Type 0} (written : T → List ℕ → T) (ended : T → T) (refuses : T → List ℕ → Fault → Type 0) where
  -- a list was added, then the member is ended
  pub ended_listed : {S B : Type 0} (steps : S → Option B → S → Type 0) (values : S) (old mid new : T) (piece : List B → Piece)
      → ExtendsListed steps values old mid (Ok tt) (written old) (refuses old) piece → new ≡ ended mid
      → EndsListed written ended refuses steps values old new (Ok tt) piece
  ended_listed steps values old mid new piece a e =
      let x = a.ok.3 in
      record { ok = (a.ok.0, a.ok.1, a.ok.2, record { state = e ∙ ap ended x.state; fits = x.fits; free = x.free }); err = tt; warranted = tt }

  -- a list was added, then another one
  pub ended_lists : {S R B C : Type 0} (steps : S → Option B → S → Type 0) (values : S)
      (more_steps : R → Option C → R → Type 0) (more : R) (old mid new : T) (outcome : Result (Unit {0}) Fault) (piece : List B → Piece)
      (more_piece : List C → Piece)
      → ExtendsListed steps values old mid (Ok tt) (written old) (refuses old) piece
      → EndsListed written ended refuses more_steps more mid new outcome more_piece
      → EndsLists written ended refuses steps values more_steps more old new outcome piece more_piece
  ended_lists steps values more_steps more old mid new (Ok u) piece more_piece a b =
      let x = a.ok.3 in
      let y = b.ok.3 in
      let e : mid ≡ written old (piece a.ok.0.items).text = x.state in
      record { ok = (a.ok.0, a.ok.1, a.ok.2, (b.ok.0, b.ok.1, b.ok.2, (rw e at y.state, x.fits, y.fits, x.free, rw e at y.free))); err = tt; warranted = tt }
  ended_lists steps values more_steps more old mid new (Err f) piece more_piece a b = record {
    ok = tt;
    err = inr (a.ok.0, a.ok.1, a.ok.2, b.err ∙ a.ok.3.state);
    warranted = inr (a.ok.0, a.ok.1, a.ok.2, (b.warranted.0, b.warranted.1, rw a.ok.3.state at b.warranted.2));
  }

module _ {S B : Type 0} (steps : S → Option B → S → Type 0) (s : S) (piece : List B → Piece) (old : HolderState) where
  abbrev Grows : HolderState → Result (Unit {0}) Fault → Type 0
  Grows new outcome = ExtendsListed steps s old new outcome (member_appended old) (no_room_in_holder old) piece

  -- what was written after the body
  abbrev Came : List ℕ → Type 0
  Came body = WholeRun steps s (λ p. Appended old.body (piece p.items) body)

  refused : (new : HolderState) (outcome : Result (Unit {0}) Fault) (fault : Fault) → IsErrAnd outcome (λ e. e ≡ fault) → new ≡ old
      → SomeRun steps s (λ p. IsWarranted (either (piece p.items).Cause (no_room_in_holder old (piece p.items).text)) fault) → Grows new outcome
  refused new (Ok u) fault e same h = absurd e
  refused new (Err f) fault e same h = rw e (record { ok = tt; err = same; warranted = h })

  -- a call that is refused for a cause of its own
  pub refused_own : (new : HolderState) (outcome : Result (Unit {0}) Fault) (fault : Fault) → IsErrAnd outcome (λ e. e ≡ fault) → new ≡ old
      → SomeRun steps s (λ p. IsWarranted (piece p.items).Cause fault) → Grows new outcome
  refused_own new outcome fault e same h =
      let p : Piece = piece h.0.items in
      refused new outcome fault e same (h.0, h.1, still_warranted p.Cause (either p.Cause (no_room_in_holder old p.text)) (λ f g. inl g) fault h.2)

  -- what was written is kept, or cut off for its size
  pub kept_or_cut : (new : HolderState) (body : List ℕ) (outcome : Result (Unit {0}) Fault) → Came body
      → OnOk outcome (new ≡ record { kept = old.kept; count = old.count; body = body; opening = old.opening })
      → OnOk outcome (content_size old.count (length body) < 2 ^ 32)
      → OnErr outcome (new ≡ old) → IfErr outcome (λ fault. (fault ≡ TooLarge) × (2 ^ 32 ≤ content_size old.count (length body))) → Grows new outcome
  kept_or_cut new body (Err fault) came e fits same large =
      refused new (Err fault) fault refl same (came.0, came.1, rw large.0 (inr (refl, rw came.3.items at large.1)))
  kept_or_cut new body (Ok u) came e fits same large = record {
    ok = (
      came.0,
      came.1,
      came.2,
      record {
        state = e ∙ rw came.3.items refl;
        fits = came.3.fits;
        free = λ fault h. elim h [ inl own ↦ came.3.no_cause fault own | inr more ↦ let less = rw came.3.items at fits in omega (arith, less, more.1) ];
      },
    );
    err = tt;
    warranted = tt;
  }

  -- what was written is kept or cut off, or it was refused for a cause of its own and is cut off
  pub kept_written : (new : HolderState) (body : List ℕ) (written outcome : Result (Unit {0}) Fault) → OnOk written (Came body)
      → IfErr written (λ fault. SomeRun steps s (λ p. IsWarranted (piece p.items).Cause fault)) → IfErr written (λ fault. outcome ≡ Err fault)
      → OnOk outcome (new ≡ record { kept = old.kept; count = old.count; body = body; opening = old.opening })
      → OnOk outcome (content_size old.count (length body) < 2 ^ 32) → OnErr outcome (new ≡ old)
      → OnOk written (IfErr outcome (λ fault. (fault ≡ TooLarge) × (2 ^ 32 ≤ content_size old.count (length body)))) → Grows new outcome
  kept_written new body (Err fault) outcome came own handed e fits same large =
      rw handed (refused_own new (Err fault) fault refl (rw handed at same) own)
  kept_written new body (Ok u) outcome came own handed e fits same large = kept_or_cut new body outcome came e fits same large
