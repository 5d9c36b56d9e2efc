-- What is printed for the results and the bytes of a run.
use Rattle.std.specs.Prelude.{ℕ, List, [], ◌∷◌, ◌++◌, Option, Some, None, Result, Ok, Err, codes}
use Rattle.std.specs.Fmt.{decimal}
use Rattle.hex.specs.Hex.{encode_lower}
use Rattle.wenc_base.specs.Fault.{fault_number}
use Rattle.wenc_base.specs.declared.fault.Fault.{Fault}

-- an index, `-` where there is none, or the number of a fault
abbrev pub answer : Result (Option ℕ) Fault → List ℕ
answer (Ok None) = codes "-"
answer (Ok (Some index)) = decimal index
answer (Err fault) = codes "refused " ++ decimal (fault_number fault)

-- a text as a line: it ends by LF
abbrev pub line_of : List ℕ → List ℕ
line_of text = text ++ 10 ∷ []

abbrev pub answer_line : Result (Option ℕ) Fault → List ℕ
answer_line given = line_of (answer given)

-- a line for each result
abbrev pub answer_lines : List (Result (Option ℕ) Fault) → List ℕ
answer_lines [] = []
answer_lines (a ∷ answers) = answer_line a ++ answer_lines answers

-- a line for each result, then one with the bytes in hexadecimal
abbrev pub printed : List (Result (Option ℕ) Fault) → List ℕ → List ℕ
printed [] bytes = line_of (encode_lower bytes)
printed (a ∷ answers) bytes = answer_line a ++ printed answers bytes
