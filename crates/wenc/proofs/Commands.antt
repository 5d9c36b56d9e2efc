-- Commands after those that ran.
use Rattle.std.proofs.Common.{◌≡◌, ℕ, ◌+◌, List, [], ◌∷◌, ◌++◌, Option, Some, None, Result, Ok, Err, false, length, refl, sym, ap, ◌∙◌}
use Rattle.std.proofs.Common.{append_assoc, append-nil, option_map, arith}
use Rattle.wasm_encoder.specs.declared.command.Built.{Built}
use Rattle.wasm_encoder.specs.Prelude.{CommandTree, RunsNext}
use Rattle.wenc.specs.Prelude.{Builds, Failure, RunsLine, commands_from, line_command}
use Rattle.wenc.specs.Script.{with_line}
use Rattle.std.specs.Prelude.{◌==◌}
use Rattle.std.specs.Result.{IsErrAnd}
use Rattle.wenc_builder.specs.Prelude.{State}
use Rattle.wenc_base.specs.declared.fault.Fault.{Fault as FaultSpec}
use Rattle.wenc.specs.declared.failure.Failure.TheVariants.{BadLine, Fault}
use Rattle.wenc.specs.inside.Lines.{commands_of_line, RanLine}

-- commands, and then what is said
abbrev pub put_before : List CommandTree → Result (List CommandTree) ℕ → Result (List CommandTree) ℕ
put_before commands (Ok behind) = Ok (commands ++ behind)
put_before commands (Err line) = Err line

pub nothing_before : (said : Result (List CommandTree) ℕ) → put_before [] said ≡ said
nothing_before said = grind arith

one_more : (commands : List CommandTree) (c : Option CommandTree) (all : List CommandTree) (n : ℕ) (said : Result (List CommandTree) ℕ)
    → option_map (λ (cs : List CommandTree). commands ++ cs) (option_map (λ (x : CommandTree). x ∷ []) c) ≡ Some all
    → put_before commands (with_line n c said) ≡ put_before all said
one_more commands c all n said h = grind (arith, append_assoc {A = CommandTree})

more_said : (commands all : List CommandTree) (n : ℕ) (line : List ℕ) (lines : List (List ℕ))
    → option_map (λ (cs : List CommandTree). commands ++ cs) (commands_of_line line) ≡ Some all
    → put_before commands (commands_from n (line ∷ lines)) ≡ put_before all (commands_from (n + 1) lines)
more_said commands all n [] lines h = cc (append-nil commands)
more_said commands all n (b ∷ line) lines h = one_more commands (line_command (b ∷ line)) all n (commands_from (n + 1) lines) h

none_said : (c : Option CommandTree) (n : ℕ) (said : Result (List CommandTree) ℕ) → option_map (λ (x : CommandTree). x ∷ []) c ≡ None
    → with_line n c said ≡ Err n
none_said c n said h = grind arith

bad_line : (commands : List CommandTree) (n : ℕ) (line : List ℕ) (lines : List (List ℕ)) → commands_of_line line ≡ None
    → put_before commands (commands_from n (line ∷ lines)) ≡ Err n
bad_line commands n [] lines h = absurd cc
bad_line commands n (b ∷ line) lines h = ap (put_before commands) (none_said (line_command (b ∷ line)) n (commands_from (n + 1) lines) h)

-- lines, and all that they say after the commands before them
module _ (commands : List CommandTree) (n : ℕ) (line : List ℕ) (lines parts : List (List ℕ)) (all : Result (List CommandTree) ℕ)
    (is : parts ≡ line ∷ lines) (said : put_before commands (commands_from n parts) ≡ all) where
  -- the first of them was read
  pub line_read : (after : List CommandTree) → option_map (λ (cs : List CommandTree). commands ++ cs) (commands_of_line line) ≡ Some after
      → put_before after (commands_from (n + 1) lines) ≡ all
  line_read after h = sym (more_said commands after n line lines h) ∙ (rw is at said)

  -- it is bad, or memory ran out
  pub read_failed : {A : Type 0} (r : Result (Built A) Failure) (failure : Failure) (old new : State) (before after : List (Result (Option ℕ) FaultSpec))
      → IsErrAnd r (λ e. e ≡ failure) → RunsLine {T = Unit {0}} (Err failure) n line old new before after → Builds r all
  read_failed (Ok built) failure old new before after e reads = absurd e
  read_failed (Err e) (BadLine bad) old new before after same reads = rw (same, reads.0) (sym (rw is at said) ∙ bad_line commands n line lines reads.1)
  read_failed (Err e) (Fault fault) old new before after same reads = rw same reads
  read_failed (Err e) failure old new before after same reads = absurd reads

-- the last line was read
pub last_read : (commands : List CommandTree) (n : ℕ) (line : List ℕ) (parts : List (List ℕ)) (all : Result (List CommandTree) ℕ)
    → parts ≡ line ∷ [] → put_before commands (commands_from n parts) ≡ all
    → (after : List CommandTree) → option_map (λ (cs : List CommandTree). commands ++ cs) (commands_of_line line) ≡ Some after → all ≡ Ok after
last_read commands n line parts all is said after h = sym (line_read commands n line [] parts all is said after h) ∙ ap Ok (append-nil after)

-- what a line says, if it isn't empty
one_said : (line : List ℕ) (c : CommandTree) → false ≡ (length line == 0) → Some c ≡ line_command line → commands_of_line line ≡ Some (c ∷ [])
one_said [] c some says = absurd cc
one_said (b ∷ line) c some says = ap (option_map (λ (x : CommandTree). x ∷ [])) (sym says)

-- a line's command ran, and its answer is kept
pub line_ran : (line : List ℕ) (old new : State) (before after : List (Result (Option ℕ) FaultSpec)) (c : CommandTree)
    (answer : Result (Option ℕ) FaultSpec) → false ≡ (length line == 0) → Some c ≡ line_command line
    → RunsNext old new answer c → after ≡ before ++ answer ∷ [] → RanLine line old new before after
line_ran line old new before after c answer some says ran is =
    record { next = λ commands r. (commands ++ c ∷ [], rw is (ran commands before r), rw (one_said line c some says) refl) }
