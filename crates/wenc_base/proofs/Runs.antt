-- Values that come from an iterator, and their runs.
use Rattle.std.proofs.Common.{◌≡◌, ℕ, ◌+◌, ◌^◌, ◌<◌, List, [], ◌∷◌, ◌++◌, length, length-append, take, drop, Option, Result, Ok, Err, OnOk}
use Rattle.std.proofs.Common.{IfErr, IsErrAnd, false, refl, ap, append_assoc, ◌∙◌, inl, inr, arith}
use Rattle.std.proofs.iter.runs.Made.{run}
use Rattle.std.specs.Iterator.Runs.{Run, SomeRun, WholeRun}
use Rattle.wenc_base.specs.Prelude.{Appended, Fault, Form, IsMemory, IsWarranted, NoCause, Piece}
use Rattle.wenc_base.specs.Prelude.{Written, count_free, drawn_cause, drawn_in_order, either_free}
use Rattle.wenc_base.specs.Prelude.{list, listed, member_cause, unsigned_text}
use Rattle.wenc_base.specs.declared.fault.Fault.TheVariants.{TooMany}
use Rattle.wenc_base.specs.laws.Serves.{drawn_is_list}
use Rattle.wenc_base.proofs.Members.{cause_of_later, free_next, still_warranted, list_is_written}

-- what `?` hands on
pub handed_on : {T : Type 0} (P : Fault → Type 0) (outcome : Result T Fault) (fault : Fault) → IsErrAnd outcome (λ e. e ≡ fault) → P fault → IfErr outcome P
handed_on P (Ok v) fault e h = tt
handed_on P (Err x) fault e h = rw e h

module _ {S A : Type 0} (steps : S → Option A → S → Type 0) (form : Form A) (s : S) where
  abbrev Causes : A → Fault → Type 0
  Causes v = (form v).Cause

  -- the value that came last is one too many
  pub too_many_run : (run : Run steps) (vs : List A) (v : A) (count : ℕ) → run.from ≡ s → run.items ≡ vs ++ v ∷ [] → length vs ≡ count → count ≡ 4294967295
      → NoCause (member_cause Causes vs) → NoCause (Causes v) → SomeRun steps s (λ p. drawn_cause Causes p.items TooMany)
  too_many_run run vs v count begins gave counted full free last =
      (run, begins, rw gave (inr (free_next Causes vs v free last, omega (arith, length-append vs (v ∷ []), counted, full))))

  -- the value that came last is refused
  pub refused_run : (run : Run steps) (vs : List A) (v : A) (fault : Fault) → run.from ≡ s → run.items ≡ vs ++ v ∷ []
      → NoCause (member_cause Causes vs) → IsWarranted (Causes v) fault → SomeRun steps s (λ p. IsWarranted (drawn_cause Causes p.items) fault)
  refused_run run vs v fault begins gave free h = (
    run,
    begins,
    rw gave (still_warranted (Causes v) (drawn_cause Causes (vs ++ v ∷ []))
        (λ f g. inl (cause_of_later Causes vs (v ∷ []) f free (inl g))) fault h),
  )

  -- where all came after a byte, and their number is put in its place
  module _ (old now : List ℕ) (lead count : ℕ) (outcome : Result (Unit {0}) Fault) where
    abbrev AllCame : Type 0
    AllCame = WholeRun steps s (λ run. (length run.items ≡ count) × (count < 2 ^ 32) × Written form (old ++ lead ∷ []) run.items now)

    pub ok_run : (new : List ℕ) (start : ℕ) → AllCame → start ≡ length old → OnOk outcome (new ≡ take start now ++ unsigned_text count ++ drop (start + 1) now)
        → OnOk outcome (WholeRun steps s (λ run. Appended old (drawn_in_order form run.items) new))
    ok_run new start came begins h = go outcome h
      where
        few : length came.0.items < 2 ^ 32
        few = omega (arith, came.3.0, came.3.1)

        free : NoCause (drawn_cause Causes came.0.items)
        free fault h = elim h [ inl member ↦ came.3.2.no_cause fault member | inr many ↦ count_free (length came.0.items) few fault many.1 ]

        go : (outcome : Result (Unit {0}) Fault) → OnOk outcome (new ≡ take start now ++ unsigned_text count ++ drop (start + 1) now)
            → OnOk outcome (WholeRun steps s (λ run. Appended old (drawn_in_order form run.items) new))
        go (Err fault) h = tt
        go (Ok u) h = (
          came.0,
          came.1,
          came.2,
          record {
            items = list_is_written form old now new came.0.items lead start count came.3.2 came.3.0 begins h;
            fits = (few, came.3.2.fit);
            no_cause = free;
          },
        )

    pub memory_run : AllCame → IfErr outcome IsMemory → IfErr outcome (λ fault. SomeRun steps s (λ run. IsWarranted (drawn_cause Causes run.items) fault))
    memory_run came h = go outcome h
      where
        go : (outcome : Result (Unit {0}) Fault) → IfErr outcome IsMemory → IfErr outcome
            (λ fault. SomeRun steps s (λ run. IsWarranted (drawn_cause Causes run.items) fault))
        go (Err fault) h = (came.0, came.1, still_warranted (λ f. ⊥) (drawn_cause Causes came.0.items) (λ f g. absurd g) fault h)
        go (Ok u) h = tt

-- before any value came
pub no_run : {S A : Type 0} (steps : S → Option A → S → Type 0) (s : S) (P : List A → Type 0) → P [] → SomeRun steps s (λ p. P p.items)
no_run steps s P h = (run steps s [] false (s, refl, λ e. absurd cc), refl, h)

-- a piece, a list of values that come from an iterator, and another piece
module _ {S A : Type 0} (steps : S → Option A → S → Type 0) (lead : Piece) (form : Form A) (tail : Piece) (s : S) where
  abbrev Refused : Fault → Type 0
  Refused fault = SomeRun steps s (λ p. IsWarranted (listed lead form tail p.items).Cause fault)

  -- the first piece is refused, before any value came
  pub lead_refused : (fault : Fault) → IsWarranted lead.Cause fault → Refused fault
  lead_refused fault h = no_run steps s (λ vs. IsWarranted (listed lead form tail vs).Cause fault)
      (still_warranted lead.Cause (listed lead form tail []).Cause (λ f g. inl g) fault h)

  -- a value is refused, or the number of values
  pub values_refused : (fault : Fault) → SomeRun steps s (λ p. IsWarranted (drawn_in_order form p.items).Cause fault) → Refused fault
  values_refused fault h =
      let vs : List A = h.0.items in (
        h.0,
        h.1,
        still_warranted (drawn_in_order form vs).Cause (listed lead form tail vs).Cause
            (λ f g. inr (inl ((drawn_is_list form vs).among f g))) fault h.2,
      )

  module _ (old now : List ℕ) where
    abbrev Came : Type 0
    Came = WholeRun steps s (λ p. Appended old (drawn_in_order form p.items) now)

    -- the last piece is refused
    pub tail_refused : (fault : Fault) → Came → IsWarranted tail.Cause fault → Refused fault
    tail_refused fault came h = (came.0, came.1, still_warranted tail.Cause (listed lead form tail came.0.items).Cause (λ f g. inr (inr g)) fault h)

    pub tail_warranted : (outcome : Result (Unit {0}) Fault) → Came → IfErr outcome (IsWarranted tail.Cause) → IfErr outcome Refused
    tail_warranted (Ok u) came h = tt
    tail_warranted (Err fault) came h = tail_refused fault came h

    -- all was written
    pub all_listed : (start new : List ℕ) → Appended start lead old → Came → Appended now tail new
        → WholeRun steps s (λ p. Appended start (listed lead form tail p.items) new)
    all_listed start new begins came ends = (
      came.0,
      came.1,
      came.2,
      record {
        items = ends.items ∙ ap (λ (t : List ℕ). t ++ tail.text) (came.3.items ∙ ap (λ (t : List ℕ). t ++ texts) begins.items)
            ∙ append_assoc (start ++ lead.text) texts tail.text ∙ append_assoc start lead.text (texts ++ tail.text);
        fits = (begins.fits, (came.3.fits, ends.fits));
        no_cause = either_free begins.no_cause (either_free ((drawn_is_list form came.0.items).free came.3.no_cause) ends.no_cause);
      },
    )
      where
        texts : List ℕ
        texts = (list form came.0.items).text

    -- all was written, if the last piece was
    pub tail_written : (start new : List ℕ) (outcome : Result (Unit {0}) Fault) → Appended start lead old → Came
        → OnOk outcome (new ≡ now ++ tail.text) → OnOk outcome tail.Fits → ((fault : Fault) → tail.Cause fault → OnOk outcome ⊥)
        → OnOk outcome (WholeRun steps s (λ p. Appended start (listed lead form tail p.items) new))
    tail_written start new (Ok u) begins came items fits free =
        all_listed start new begins came (record { items = items; fits = fits; no_cause = free })
    tail_written start new (Err fault) begins came items fits free = tt
