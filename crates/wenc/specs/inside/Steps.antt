-- What the steps of a run returned.
use Rattle.std.specs.Prelude.{◌≡◌, ℕ, List, ◌++◌, ◌⊎◌, All, Any, IsOk, IsErr, Option, Result, Ok}
use Rattle.std.specs.Prelude.{Err, Vec}
use Rattle.std.specs.Io.KnownBytes.{Consumes, IsAtEnd}
use Rattle.hex.specs.Hex.{encode_lower}
use Rattle.wenc_base.specs.Fault.{IsMemory}
use Rattle.wenc_base.specs.declared.fault.Fault.{Fault as FaultSpec}
use Rattle.wenc_builder.specs.Sections.{whole}
use Rattle.wenc_builder.specs.Entry.{Entry, items}
use Rattle.wasm_encoder.specs.Command.{CommandTree}
use Rattle.wasm_encoder.specs.Ran.{Ran}
use Rattle.wenc.specs.declared.failure.Failure.{Failure}
use Rattle.wenc.specs.declared.failure.Failure.TheVariants.{Arguments, BadLine, Fault, Transfer}
use Rattle.wenc.specs.declared.program.Printout.{Printout}
use Rattle.wenc.specs.Script.{script}
use Rattle.wenc.specs.Printed.{line_of, printed}
use Rattle.wenc.specs.Run.{Says, usage, line_report, fault_report, no_memory}

-- the exit status for these results
abbrev pub IsStatusOf : ℕ → List (Result (Option ℕ) FaultSpec) → Type 0
IsStatusOf status answers = ((status ≡ 2) × Any IsErr answers) ⊎ ((status ≡ 0) × All IsOk answers)

-- the text of a printout: its lines, then one with its bytes in hexadecimal
abbrev pub text_of : {A : Type 0} → Printout A → List ℕ
text_of p = p.lines.items ++ line_of (encode_lower p.bytes.items)

-- what is printed for a script
pub record Translation {A : Type 0} (p : Printout A) (text : List ℕ) : Type 0 where
  pub commands : List CommandTree
  pub answers : List (Result (Option ℕ) FaultSpec)
  pub entries : List Entry
  pub says : script text ≡ Ok commands
  pub ran : Ran commands answers entries
  pub status : IsStatusOf p.status answers
  pub prints : text_of p ≡ printed answers (whole (items entries))

abbrev pub Translates : {A : Type 0} → Result (Printout A) Failure → List ℕ → Type 0
Translates (Ok p) text = Translation p text
Translates (Err (BadLine line)) text = script text ≡ Err line
Translates (Err (Fault fault)) text = IsMemory fault
Translates (Err Transfer) text = ⊥
Translates (Err Arguments) text = ⊥

-- a text that was all there was to read
pub record IsWholeRun (left ended : Option (List ℕ)) (text : List ℕ) : Type 0 where
  pub consumed : Consumes left ended text
  pub ends : IsAtEnd ended

-- All that a reader had left was read, or a read failed, or memory ran out.
abbrev pub ReadsWhole : {A : Type 0} → Result (Vec ℕ A) Failure → Option (List ℕ) → Option (List ℕ)
    → Type 0
ReadsWhole (Ok text) left ended = IsWholeRun left ended text.items
ReadsWhole (Err (BadLine line)) left ended = ⊥
ReadsWhole (Err (Fault fault)) left ended = IsMemory fault
ReadsWhole (Err Transfer) left ended = Unit {0}
ReadsWhole (Err Arguments) left ended = ⊥

-- why what a reader had left was not translated
abbrev pub NotTranslated : Failure → Option (List ℕ) → Option (List ℕ) → Type 0
NotTranslated (BadLine line) left ended =
    (text : List ℕ) × IsWholeRun left ended text × (script text ≡ Err line)
NotTranslated (Fault fault) left ended = IsMemory fault
NotTranslated Transfer left ended = Unit {0}
NotTranslated Arguments left ended = ⊥

-- the translation of what a reader had left
abbrev pub Reads : {A : Type 0} → Result (Printout A) Failure → Option (List ℕ) → Option (List ℕ)
    → Type 0
Reads (Ok p) left ended = (text : List ℕ) × IsWholeRun left ended text × Translation p text
Reads (Err failure) left ended = NotTranslated failure left ended

-- how a failure was reported; a line's number also takes memory
abbrev pub Reported : ℕ → Failure → Option (List ℕ) → Option (List ℕ) → Type 0
Reported status Arguments before after = Says status 1 usage before after
Reported status (BadLine line) before after =
    Says status 1 (line_report line) before after ⊎ Says status 2 no_memory before after
Reported status (Fault fault) before after = Says status 2 (fault_report fault) before after
Reported status Transfer before after = (status ≡ 4) × (after ≡ before)
