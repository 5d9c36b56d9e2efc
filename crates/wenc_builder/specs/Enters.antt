-- What a call of a builder does.
use Rattle.std.specs.Prelude.{◌≡◌, ◌↔◌, ℕ, List, [], ◌∷◌, ◌++◌, Option, Some, None, false, Result}
use Rattle.std.specs.Prelude.{Err, IfOk, OnOk, OnErr, IfErr}
use Rattle.std.specs.Iterator.Runs.{SomeRun, WholeRun}
use Rattle.wenc_base.specs.Fault.{IsWarranted, NoCause}
use Rattle.wenc_base.specs.declared.fault.Fault.{Fault}
use Rattle.wenc_base.specs.declared.fault.Fault.TheVariants.{Unfinished}
use Rattle.wenc_builder.specs.Item.{item}
use Rattle.wenc_builder.specs.Space.{Indices, defines, IsIndexOf, next_index}
use Rattle.wenc_builder.specs.Entry.{Entry, items}
use Rattle.wenc_builder.specs.Builder.{State, step, builder_is_finished, namespace_at}
use Rattle.wenc_builder.specs.Builder.{NewItem, item_begun}
use Rattle.wenc_builder.specs.Holds.{Holds}
use Rattle.wenc_builder.specs.Cause.{BeginCause, EnterCause}

-- This is the number of items in the space of these indices.
abbrev pub IsCountAt : State → Option Indices → ℕ → Type 0
IsCountAt s None i = ⊥
IsCountAt s (Some d) i = i ≡ (namespace_at s.settled.spaces d.space).count

-- A call that succeeds adds this entry, which has no cause, to every list that was held, and
-- returns this, by such a list and by the state; one that fails has a cause and changes nothing. It
-- fails with `Unfinished` if and only if an item is being written.
pub record EntersWith {R : Type 0} (old new : State) (result : Result R Fault) (x : Entry)
    (Returned : List Entry → R → Type 0) (Counted : Option Indices → R → Type 0) : Type 0 where
  pub held : (es : List Entry) → Holds old es
      → IfOk result (λ r. Holds new (es ++ x ∷ []) × Returned es r)
  pub state : OnOk result (new ≡ step old x)
  pub counted : IfOk result (Counted (defines x.item))
  pub fits : OnOk result (item x.item).Fits
  pub free : OnOk result (NoCause (EnterCause old x))
  pub err : OnErr result (new ≡ old)
  pub warranted : IfErr result (IsWarranted (EnterCause old x))
  pub unfinished : (builder_is_finished old ≡ false) ↔ (result ≡ Err Unfinished)

-- A call adds this entry and returns its index: the number of items that its space had.
abbrev pub Enters : State → State → Result ℕ Fault → Entry → Type 0
Enters old new result x =
    EntersWith old new result x (λ es i. IsIndexOf (items es) x.item i) (IsCountAt old)

-- A call adds this entry, which has no index.
abbrev pub EntersWithoutIndex : State → State → Result (Unit {0}) Fault → Entry → Type 0
EntersWithoutIndex old new result x =
    EntersWith old new result x (λ es r. Unit {0}) (λ indices r. Unit {0})

-- A call adds an entry that is made of the values that an iterator gives: of all of them, or of
-- those that came before it was refused.
pub record EntersListed {S B : Type 0} (steps : S → Option B → S → Type 0) (values : S)
    (old new : State) (result : Result ℕ Fault) (x : List B → Entry) : Type 0 where
  pub ok : OnOk result (WholeRun steps values (λ run. Enters old new result (x run.items)))
  pub refused : OnErr result (SomeRun steps values (λ run. Enters old new result (x run.items)))

-- A call begins an item and returns its index and an encoder, which borrows the builder; or it
-- fails for a cause.
pub record BeginsItem {E : Type 0} (index : E → ℕ) (parent : E → State) (old : State)
    (result : Result E Fault) (d : NewItem) : Type 0 where
  pub begun : IfOk result (λ e. parent e ≡ item_begun old d)
  pub indexed : IfOk result
      (λ e. (es : List Entry) → Holds old es → index e ≡ next_index (items es) d.space)
  pub free : OnOk result (NoCause (BeginCause old d))
  pub warranted : IfErr result (IsWarranted (BeginCause old d))
  pub unfinished_first : builder_is_finished old ≡ false → result ≡ Err Unfinished
