-- What running one command does to a builder.
use Rattle.std.specs.Prelude.{◌≡◌, ℕ, List, [], ◌∷◌, Result, Ok, Err, MatchResult, Option, Some}
use Rattle.std.specs.Prelude.{None}
use Rattle.wenc_base.specs.declared.fault.Fault.{Fault}
use Rattle.wenc_builder.specs.Builder.{State, item_given_up}
use Rattle.wenc_builder.specs.Entry.{Entry}
use Rattle.wenc_builder.specs.Holds.{Holds}
use Rattle.wasm_encoder.specs.Command.{CommandTree, Add, Commands, no_more, then, command_view}
use Rattle.wasm_encoder.specs.declared.command.Command.{Command}
use Rattle.wasm_encoder.specs.Cause.{cause}
use Rattle.wasm_encoder.specs.Ran.{IsRefusal, IsDue, entries_after, IsTyped, HasRun}

-- the code's commands as pure data
abbrev pub commands_view : {A : Type 0} → List (Command A) → Commands
commands_view [] = no_more
commands_view (c ∷ cs) = then (command_view c) (commands_view cs)

-- A command had this result, for every list of entries that was held.
pub record Answers (old new : State) (answer : Result (Option ℕ) Fault)
    (c : CommandTree) : Type 0 where
  pub held : (es : List Entry) → Holds old es
      → Holds new (entries_after es c answer) × IsDue es c answer

-- A command's type was refused by its encoder. What was held is held once the type is discarded.
pub record StepsStop (old given_up : State) (fault : Fault) (c : CommandTree) : Type 0 where
  pub entry : Entry
  pub adds : c ≡ Add entry
  pub typed : IsTyped entry.item
  pub refused : (es : List Entry) → Holds old es → IsRefusal (cause es c) fault
  pub kept : (es : List Entry) → Holds old es → Holds given_up es

-- The same, with that type left unfinished.
pub record StepsLeft (old new : State) (fault : Fault) (c : CommandTree) : Type 0 where
  pub stops : StepsStop old (item_given_up new) fault c

-- what running a command does, where a type that is refused is left unfinished
abbrev pub StepsRun : State → State → Result (Result (Option ℕ) Fault) Fault → CommandTree → Type 0
StepsRun old new outcome c =
    MatchResult outcome (λ answer. Answers old new answer c) (λ fault. StepsLeft old new fault c)

-- what it does, if that type is discarded
abbrev pub StepsBack : State → State → Result (Result (Option ℕ) Fault) Fault → CommandTree → Type 0
StepsBack old new outcome c =
    MatchResult outcome (λ answer. Answers old new answer c) (λ fault. StepsStop old new fault c)

-- some commands ran
abbrev pub HasRunSome : State → Type 0
HasRunSome s =
    ∥ ((commands : List CommandTree) × (answers : List (Result (Option ℕ) Fault))
    × HasRun s commands answers) ∥₁

-- the result of a call that returns an index
abbrev pub indexed : Result ℕ Fault → Result (Option ℕ) Fault
indexed (Ok index) = Ok (Some index)
indexed (Err fault) = Err fault

-- and of one that returns none
abbrev pub without_index : Result (Unit {0}) Fault → Result (Option ℕ) Fault
without_index (Ok done) = Ok None
without_index (Err fault) = Err fault
