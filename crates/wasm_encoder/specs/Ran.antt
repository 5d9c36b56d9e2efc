-- What a run of commands is, and what stops one.
use Rattle.std.specs.Prelude.{◌≡◌, ℕ, List, [], ◌∷◌, ◌++◌, Result, Ok, Err, Option}
use Rattle.wenc_base.specs.Fault.{IsWarranted, NoCause}
use Rattle.wenc_base.specs.declared.fault.Fault.{Fault}
use Rattle.wenc_base.specs.declared.fault.Fault.TheVariants.{Unfinished}
use Rattle.wenc_builder.specs.Builder.{State}
use Rattle.wenc_builder.specs.Entry.{Entry}
use Rattle.wenc_builder.specs.Holds.{Holds}
use Rattle.wenc_builder.specs.Item.{Item, CoreTypeItem, TypeItem}
use Rattle.wasm_encoder.specs.Command.{CommandTree, Add}
use Rattle.wasm_encoder.specs.Cause.{added, answer_of, cause}

-- A command may be refused with this fault: for a failed allocation, or with this cause; never as
-- unfinished.
abbrev pub IsRefusal : (Fault → Type 0) → Fault → Type 0
IsRefusal cause fault = IsWarranted cause fault × (fault ≡ Unfinished → ⊥)

-- After these entries the command may have this result: if it has no cause, the index of its item,
-- if that has one.
abbrev pub IsDue : List Entry → CommandTree → Result (Option ℕ) Fault → Type 0
IsDue es c (Ok answer) = (answer ≡ answer_of es c) × NoCause (cause es c)
IsDue es c (Err fault) = IsRefusal (cause es c) fault

-- An accepted command adds its entry, and a refused one nothing.
abbrev pub entries_after : List Entry → CommandTree → Result (Option ℕ) Fault → List Entry
entries_after es c (Ok answer) = es ++ added es c
entries_after es c (Err fault) = es

-- After the entries es, the commands had these results and led to these entries.
abbrev pub RanFrom : List Entry → List CommandTree → List (Result (Option ℕ) Fault) → List Entry
    → Type 0
RanFrom es [] [] all = es ≡ all
RanFrom es (c ∷ cs) (a ∷ answers) all = IsDue es c a × RanFrom (entries_after es c a) cs answers all
RanFrom es commands answers all = ⊥

-- one result for each command, from no entries on
abbrev pub Ran : List CommandTree → List (Result (Option ℕ) Fault) → List Entry → Type 0
Ran commands answers all = RanFrom [] commands answers all

-- ---- a run, command by command

-- These commands had these results, and the builder holds the entries that they led to.
pub record HasRun (s : State) (commands : List CommandTree)
    (answers : List (Result (Option ℕ) Fault)) : Type 0 where
  pub entries : List Entry
  pub ran : Ran commands answers entries
  pub held : Holds s entries

-- The command ran after those before it, and had this result.
abbrev pub RunsNext : State → State → Result (Option ℕ) Fault → CommandTree → Type 0
RunsNext old new answer c =
    (commands : List CommandTree) (answers : List (Result (Option ℕ) Fault))
    → HasRun old commands answers → HasRun new (commands ++ c ∷ []) (answers ++ answer ∷ [])

-- ---- what stops a run

-- a type, which an encoder writes
abbrev pub IsTyped : Item → Type 0
IsTyped (CoreTypeItem ty) = Unit {0}
IsTyped (TypeItem ty) = Unit {0}
IsTyped item = ⊥

-- A prefix of the commands ran, and the next one writes a type and may be refused with this fault.
pub record IsStopped (commands : List CommandTree) (fault : Fault) : Type 0 where
  pub front : List CommandTree
  pub next : Entry
  pub rest : List CommandTree
  pub split : commands ≡ front ++ Add next ∷ rest
  pub answers : List (Result (Option ℕ) Fault)
  pub so_far : List Entry
  pub ran : Ran front answers so_far
  pub typed : IsTyped next.item
  pub refused : IsRefusal (cause so_far (Add next)) fault
