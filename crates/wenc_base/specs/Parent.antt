-- What an encoder does to its parent.
use Rattle.std.specs.Prelude.{◌≡◌, ℕ, List, Option, Bool, false, IsTrue, ◌↔◌, ◌⊎◌, Result, Err}
use Rattle.std.specs.Prelude.{OnOk, OnErr, IfOk, IfErr}
use Rattle.std.specs.Iterator.Runs.{SomeRun, WholeRun}
use Rattle.wenc_base.specs.Fault.{IsWarranted, NoCause, either}
use Rattle.wenc_base.specs.Piece.{Piece}
use Rattle.wenc_base.specs.declared.fault.Fault.{Fault}
use Rattle.wenc_base.specs.declared.fault.Fault.TheVariants.{Unfinished}

-- A call adds this piece and leaves `next`, or is refused, for the piece's cause or for `refuses`,
-- and changes nothing.
pub record Extends {T : Type 0} (old new next : T) (outcome : Result (Unit {0}) Fault) (p : Piece)
    (refuses : Fault → Type 0) : Type 0 where
  pub ok : OnOk outcome (new ≡ next)
  pub fits : OnOk outcome p.Fits
  pub free : OnOk outcome (NoCause (either p.Cause refuses))
  pub err : OnErr outcome (new ≡ old)
  pub warranted : IfErr outcome (IsWarranted (either p.Cause refuses))

-- This piece was added, which left `next`; it fits, and has no cause.
pub record Extended {T : Type 0} (new : T) (next : List ℕ → T)
    (refuses : List ℕ → Fault → Type 0) (p : Piece) : Type 0 where
  pub state : new ≡ next p.text
  pub fits : p.Fits
  pub free : NoCause (either p.Cause (refuses p.text))

-- `Extends`, where the piece is made of the values that an iterator gives. `next` is what more
-- bytes leave, `refuses` why there is no room for them.
pub record ExtendsListed {T S B : Type 0} (steps : S → Option B → S → Type 0) (values : S)
    (old new : T) (outcome : Result (Unit {0}) Fault)
    (next : List ℕ → T) (refuses : List ℕ → Fault → Type 0) (piece : List B → Piece) : Type 0 where
  pub ok : OnOk outcome
      (WholeRun steps values (λ run. Extended new next refuses (piece run.items)))
  pub err : OnErr outcome (new ≡ old)
  pub warranted : IfErr outcome
      (λ fault. SomeRun steps values (λ run.
      IsWarranted (either (piece run.items).Cause (refuses (piece run.items).text)) fault))

-- After this piece, if it fits, the member that is being written is whole.
abbrev pub MakesWhole : {T : Type 0} → (T → Type 0) → (T → List ℕ → T) → T → Piece → Type 0
MakesWhole is_whole appended parent p = p.Fits → ∥ is_whole (appended parent p.text) ∥₁

-- A last call adds this piece to the member and ends it, or is refused for a cause and changes
-- nothing.
abbrev pub Ends : {T : Type 0} → (T → List ℕ → T) → (T → T) → (T → List ℕ → Fault → Type 0) → T → T
    → Result (Unit {0}) Fault → Piece → Type 0
Ends appended ended refuses old new outcome p =
    Extends old new (ended (appended old p.text)) outcome p (refuses old p.text)

-- `Ends`, where the piece is made of the values that an iterator gives.
abbrev pub EndsListed : {T S B : Type 0} → (T → List ℕ → T) → (T → T)
    → (T → List ℕ → Fault → Type 0) → (S → Option B → S → Type 0) → S → T → T
    → Result (Unit {0}) Fault → (List B → Piece) → Type 0
EndsListed appended ended refuses steps values old new outcome piece =
    ExtendsListed steps values old new outcome (λ bytes. ended (appended old bytes)) (refuses old)
    piece

-- `EndsListed` of two lists, of which the second comes when the first is added. A call that is
-- refused may have added the first.
pub record EndsLists {T S R B C : Type 0} (appended : T → List ℕ → T) (ended : T → T)
    (refuses : T → List ℕ → Fault → Type 0)
    (steps : S → Option B → S → Type 0) (values : S) (more_steps : R → Option C → R → Type 0)
    (more : R) (old new : T) (outcome : Result (Unit {0}) Fault)
    (piece : List B → Piece) (more_piece : List C → Piece) : Type 0 where
  pub ok : OnOk outcome (WholeRun steps values (λ run. WholeRun more_steps more (λ last.
      let between = appended old (piece run.items).text in
      (new ≡ ended (appended between (more_piece last.items).text))
      × (piece run.items).Fits × (more_piece last.items).Fits
      × NoCause (either (piece run.items).Cause (refuses old (piece run.items).text))
      × NoCause
      (either (more_piece last.items).Cause (refuses between (more_piece last.items).text)))))
  pub err : OnErr outcome
      ((new ≡ old) ⊎ WholeRun steps values (λ run. new ≡ appended old (piece run.items).text))
  pub warranted : IfErr outcome
      (λ fault. SomeRun steps values (λ run.
      IsWarranted (either (piece run.items).Cause (refuses old (piece run.items).text)) fault)
      ⊎ WholeRun steps values (λ run. SomeRun more_steps more (λ last.
      IsWarranted
      (either (more_piece last.items).Cause
      (refuses (appended old (piece run.items).text) (more_piece last.items).text)) fault)))

-- A call begins a member and returns an encoder, which borrows the parent, or fails for a cause.
pub record Borrows {T E : Type 0} (parent : E → T) (next : T) (finished : Bool)
    (outcome : Result E Fault) (cause : Fault → Type 0) : Type 0 where
  pub begun : IfOk outcome (λ e. parent e ≡ next)
  pub free : OnOk outcome (NoCause cause)
  pub warranted : IfErr outcome (IsWarranted cause)
  pub unfinished_first : finished ≡ false → outcome ≡ Err Unfinished

-- A call discards the member that is being written, and returns whether there was one.
pub record GivesUp {T : Type 0} (new back : T) (finished result : Bool) : Type 0 where
  pub same : new ≡ back
  pub returned : IsTrue result ↔ (finished ≡ false)
