-- Scripts: what each line of a text says.
use Rattle.std.specs.Prelude.{ℕ, ◌+◌, if◌then◌else◌, List, [], ◌∷◌, Bool, true, false, Option, Some}
use Rattle.std.specs.Prelude.{None, option_map, Result, Ok, Err, codes}
use Rattle.std.specs.Str.{is_utf8, bytes_eq}
use Rattle.wenc_parts.specs.declared.exports.ComponentExportKind.{ComponentExportKind}
use Rattle.wenc_parts.specs.Imports.{plain_name}
use Rattle.wenc_builder.specs.Entry.{import_entry, export_entry, alias_export_entry, module_entry}
use Rattle.wenc_builder.specs.Entry.{start_entry, canonical_tree_entry}
use Rattle.wasm_encoder.specs.Command.{CommandTree, Add, AppendNames}
use Rattle.wenc.specs.Fields.{number_word, numbers, hex, kind, reference_word}
use Rattle.wenc.specs.Builtins.{builtin_said}
use Rattle.wenc.specs.Parts.{parted}

-- ---- lines

-- import NAME KIND I
abbrev pub import_of : List ℕ → Option ComponentExportKind → Option ℕ → Option CommandTree
import_of name None i = None
import_of name (Some k) None = None
import_of name (Some k) (Some i) = Some (Add (import_entry (plain_name name) (reference_word k i)))

abbrev pub import_command : List (List ℕ) → Option CommandTree
import_command (name ∷ k ∷ i ∷ []) = import_of name (kind k) (number_word i)
import_command other = None

-- export NAME KIND I
abbrev pub export_of : List ℕ → Option ComponentExportKind → Option ℕ → Option CommandTree
export_of name None i = None
export_of name (Some k) None = None
export_of name (Some k) (Some i) = Some (Add (export_entry (plain_name name) k i None))

abbrev pub export_command : List (List ℕ) → Option CommandTree
export_command (name ∷ k ∷ i ∷ []) = export_of name (kind k) (number_word i)
export_command other = None

-- alias-export I KIND NAME: the alias has its name as its debug name
abbrev pub alias_said : Option ℕ → Option ComponentExportKind → List ℕ → Option CommandTree
alias_said None k name = None
alias_said (Some i) None name = None
alias_said (Some i) (Some k) name = Some (Add (alias_export_entry i name k))

abbrev pub alias_command : List (List ℕ) → Option CommandTree
alias_command (i ∷ k ∷ name ∷ []) = alias_said (number_word i) (kind k) name
alias_command other = None

-- core-module HEX
abbrev pub core_module_command : List (List ℕ) → Option CommandTree
core_module_command (bytes ∷ []) = option_map (λ code. Add (module_entry None code)) (hex bytes)
core_module_command other = None

-- start F R A..
abbrev pub start_of : Option ℕ → Option ℕ → Option (List ℕ) → Option CommandTree
start_of None results arguments = None
start_of (Some f) None arguments = None
start_of (Some f) (Some r) None = None
start_of (Some f) (Some r) (Some values) = Some (Add (start_entry f values r))

abbrev pub start_command : List (List ℕ) → Option CommandTree
start_command (function ∷ results ∷ arguments) =
    start_of (number_word function) (number_word results) (numbers arguments)
start_command other = None

-- append-names
abbrev pub append_names_command : List (List ℕ) → Option CommandTree
append_names_command [] = Some AppendNames
append_names_command other = None

-- the builtins have words of their own
abbrev pub command_by : List ℕ → List (List ℕ) → Option CommandTree
command_by verb words =
    if bytes_eq verb (codes "import") then import_command words
    else if bytes_eq verb (codes "export") then export_command words
    else if bytes_eq verb (codes "alias-export") then alias_command words
    else if bytes_eq verb (codes "core-module") then core_module_command words
    else if bytes_eq verb (codes "start") then start_command words
    else if bytes_eq verb (codes "append-names") then append_names_command words
    else option_map (λ function. Add (canonical_tree_entry None function)) (builtin_said verb words)

abbrev pub command_of : List (List ℕ) → Option CommandTree
command_of [] = None
command_of (verb ∷ words) = command_by verb words

-- no word is empty: words are parted by one space
abbrev pub has_empty : List (List ℕ) → Bool
has_empty [] = false
has_empty ([] ∷ words) = true
has_empty ((b ∷ word) ∷ words) = has_empty words

abbrev pub line_command : List ℕ → Option CommandTree
line_command line =
    if is_utf8 line then (if has_empty (parted 32 line) then None else command_of (parted 32 line))
    else None

abbrev pub with_command : CommandTree → Result (List CommandTree) ℕ → Result (List CommandTree) ℕ
with_command c (Ok cs) = Ok (c ∷ cs)
with_command c (Err line) = Err line

abbrev pub with_line : ℕ → Option CommandTree → Result (List CommandTree) ℕ
    → Result (List CommandTree) ℕ
with_line n None behind = Err n
with_line n (Some c) behind = with_command c behind

-- the commands of the lines, of which the first has number n, or the number of the first bad one;
-- an empty line says nothing
abbrev pub commands_from : ℕ → List (List ℕ) → Result (List CommandTree) ℕ
commands_from n [] = Ok []
commands_from n ([] ∷ lines) = commands_from (n + 1) lines
commands_from n ((b ∷ line) ∷ lines) =
    with_line n (line_command (b ∷ line)) (commands_from (n + 1) lines)

-- The commands that a script says, or the number of its first bad line. Lines end by LF, and the
-- last may lack it.
abbrev pub script : List ℕ → Result (List CommandTree) ℕ
script text = commands_from 1 (parted 10 text)
