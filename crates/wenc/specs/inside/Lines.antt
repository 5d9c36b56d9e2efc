-- How a script runs line by line.
use Rattle.std.specs.Prelude.{◌≡◌, ℕ, List, [], ◌∷◌, ◌++◌, Bool, length, take, Option, Some, None}
use Rattle.std.specs.Prelude.{option_map, Result, Ok, Err}
use Rattle.std.specs.Bool.{MatchBool}
use Rattle.std.specs.Str.{IsUtf8, IsValidUpTo}
use Rattle.wasm_encoder.specs.Command.{CommandTree}
use Rattle.wasm_encoder.specs.Ran.{HasRun}
use Rattle.wenc_base.specs.Fault.{IsMemory}
use Rattle.wenc_base.specs.declared.fault.Fault.{Fault as FaultSpec}
use Rattle.wenc_builder.specs.Builder.{State}
use Rattle.wenc.specs.Script.{line_command}
use Rattle.wenc.specs.declared.failure.Failure.{Failure}
use Rattle.wenc.specs.declared.failure.Failure.TheVariants.{Arguments, BadLine, Fault, Transfer}

-- the longest prefix of bytes that is UTF-8, and whether that is all of them
abbrev pub IsTextInFront : List ℕ → List ℕ → Bool → Type 0
IsTextInFront bytes text is_whole =
    MatchBool is_whole ((text ≡ bytes) × IsUtf8 bytes)
    ((text ≡ take (length text) bytes) × IsValidUpTo bytes (length text))

-- the command that a line says, if it isn't bad; an empty line says nothing
abbrev pub commands_of_line : List ℕ → Option (List CommandTree)
commands_of_line [] = Some []
commands_of_line (b ∷ line) = option_map (λ c. c ∷ []) (line_command (b ∷ line))

-- What a line says ran after the commands of the lines before it.
pub record RanLine (line : List ℕ) (old new : State)
    (before after : List (Result (Option ℕ) FaultSpec)) : Type 0 where
  pub next : (commands : List CommandTree) → HasRun old commands before
      → (all : List CommandTree) × HasRun new all after
      × (option_map (λ said. commands ++ said) (commands_of_line line) ≡ Some all)

-- That, or the line with this number is bad, or memory ran out.
abbrev pub RunsLine : {T : Type 0} → Result T Failure → ℕ → List ℕ → State → State
    → List (Result (Option ℕ) FaultSpec) → List (Result (Option ℕ) FaultSpec) → Type 0
RunsLine (Ok done) number line old new before after = RanLine line old new before after
RunsLine (Err (BadLine bad)) number line old new before after =
    (bad ≡ number) × (commands_of_line line ≡ None)
RunsLine (Err (Fault fault)) number line old new before after = IsMemory fault
RunsLine (Err Transfer) number line old new before after = ⊥
RunsLine (Err Arguments) number line old new before after = ⊥
