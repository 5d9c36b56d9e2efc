-- What a run of the program did, by its status.
use Rattle.std.specs.Prelude.{◌≡◌, ℕ, List, [], ◌∷◌, ◌++◌, ◌⊎◌, All, Any, IsOk, IsErr, Option, Some}
use Rattle.std.specs.Prelude.{Result, Ok, Err, codes}
use Rattle.std.specs.Fmt.{decimal}
use Rattle.std.specs.Io.KnownBytes.{Appends, Keeps}
use Rattle.wenc_base.specs.declared.fault.Fault.{Fault}
use Rattle.wenc_base.specs.Fault.{fault_number}
use Rattle.wenc_builder.specs.Sections.{whole}
use Rattle.wenc_builder.specs.Entry.{Entry, items}
use Rattle.wasm_encoder.specs.Command.{CommandTree}
use Rattle.wasm_encoder.specs.Ran.{Ran}
use Rattle.wenc.specs.Script.{script}
use Rattle.wenc.specs.Printed.{printed}

-- ---- what is printed on standard error

abbrev pub usage : List ℕ
usage = codes "usage" ++ 10 ∷ []

abbrev pub line_report : ℕ → List ℕ
line_report line = codes "line " ++ decimal line ++ 10 ∷ []

abbrev pub fault_report : Fault → List ℕ
fault_report fault = codes "fault " ++ decimal (fault_number fault) ++ 10 ∷ []

abbrev pub no_memory : List ℕ
no_memory = codes "fault 1" ++ 10 ∷ []

-- ---- runs

-- The text is a script, its commands ran with results of which P holds, and what is printed for
-- them was written.
pub record Prints (P : List (Result (Option ℕ) Fault) → Type 0)
    (text before after : List ℕ) : Type 0 where
  pub commands : List CommandTree
  pub answers : List (Result (Option ℕ) Fault)
  pub entries : List Entry
  pub says : script text ≡ Ok commands
  pub ran : Ran commands answers entries
  pub accepted : P answers
  pub writes : after ≡ before ++ printed answers (whole (items entries))

-- status 0: every command was accepted
abbrev pub PrintsAccepted : List ℕ → List ℕ → List ℕ → Type 0
PrintsAccepted = Prints (All IsOk)

-- status 2: a command was refused
abbrev pub PrintsRefused : List ℕ → List ℕ → List ℕ → Type 0
PrintsRefused = Prints (Any IsErr)

-- status 1: the text has a bad line, whose number was reported, and nothing was written
abbrev pub NamesBadLine : List ℕ → List ℕ → List ℕ → Option (List ℕ) → Option (List ℕ) → Type 0
NamesBadLine text before after errors reported =
    (line : ℕ) × (script text ≡ Err line) × (after ≡ before) ×
    Appends errors reported (line_report line)

-- A prefix of the text was written.
pub record AppendsFront (before after : Option (List ℕ)) (text : List ℕ) : Type 0 where
  pub sent : List ℕ
  pub missing : List ℕ
  pub front : text ≡ sent ++ missing
  pub appends : Appends before after sent

-- status 4: a write failed, and what was written is a prefix of the output
pub record PrintsFront (text before after : List ℕ) : Type 0 where
  pub commands : List CommandTree
  pub answers : List (Result (Option ℕ) Fault)
  pub entries : List Entry
  pub says : script text ≡ Ok commands
  pub ran : Ran commands answers entries
  pub sent : List ℕ
  pub missing : List ℕ
  pub front : printed answers (whole (items entries)) ≡ sent ++ missing
  pub writes : after ≡ before ++ sent

-- What a reader had left and has left in the end, what a writer held before and after, and what
-- standard error held, where these are known: the status says what was read and written. Status 2
-- may also mean that memory ran out.
pub record EndsRun (status : ℕ)
    (left ended before after errors reported : Option (List ℕ)) : Type 0 where
  pub zero : status ≡ 0 → (text old : List ℕ) → left ≡ Some text → before ≡ Some old
      → (new : List ℕ) × (after ≡ Some new) × (ended ≡ Some []) × PrintsAccepted text old new ×
      Keeps errors reported
  pub one : status ≡ 1 → (text old : List ℕ) → left ≡ Some text → before ≡ Some old
      → (new : List ℕ) × (after ≡ Some new) × (ended ≡ Some []) ×
      NamesBadLine text old new errors reported
  pub two : status ≡ 2 → (text old : List ℕ) → left ≡ Some text → before ≡ Some old
      → (new : List ℕ) × (after ≡ Some new)
      × (((ended ≡ Some []) × PrintsRefused text old new × Keeps errors reported) ⊎
      ((new ≡ old) × Appends errors reported no_memory))
  pub four : status ≡ 4 → (text old : List ℕ) → left ≡ Some text → before ≡ Some old
      → (new : List ℕ) × (after ≡ Some new)
      × (((ended ≡ Some []) × PrintsFront text old new × Keeps errors reported) ⊎ (new ≡ old))

-- the status says that this text was written, or that a write failed
abbrev pub Says : ℕ → ℕ → List ℕ → Option (List ℕ) → Option (List ℕ) → Type 0
Says status meant text before after =
    ((status ≡ meant) × Appends before after text) ⊎ ((status ≡ 4) × AppendsFront before after text)
