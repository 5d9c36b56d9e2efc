-- What a word says: a number, a flag, bytes, a kind.
use Rattle.hex.specs.Hex.{decode_of}
use Rattle.hex.specs.declared.error.FromHexError.{FromHexError}
use Rattle.std.specs.Prelude.{ℕ, ◌+◌, ◌-◌, ◌*◌, ◌^◌, ◌&&◌, nat_le, nat_lt, if◌then◌else◌, List, []}
use Rattle.std.specs.Prelude.{◌∷◌, Bool, true, false, Option, Some, None, Result, Ok, Err, codes}
use Rattle.std.specs.Str.{bytes_eq}
use Rattle.wenc_parts.specs.declared.exports.ComponentExportKind.{ComponentExportKind}
use Rattle.wenc_parts.specs.declared.exports.ComponentExportKind.TheVariants as kinds
use Rattle.wenc_parts.specs.declared.imports.ComponentTypeRef.{ComponentTypeRef}
use Rattle.wenc_parts.specs.declared.imports.ComponentTypeRef.TheVariants as refs
use Rattle.wenc_parts.specs.declared.imports.TypeBounds.TheVariants.{Eq}
use Rattle.wenc_parts.specs.declared.types.ComponentValType.TheVariants as values

abbrev pub is_digit : ℕ → Bool
is_digit b = nat_le 48 b && nat_le b 57

-- the value of decimal digits after n
abbrev pub value_behind : ℕ → List ℕ → Option ℕ
value_behind n [] = Some n
value_behind n (b ∷ bytes) = if is_digit b then value_behind (n * 10 + (b - 48)) bytes else None

abbrev pub at_most_32_bits : Option ℕ → Option ℕ
at_most_32_bits None = None
at_most_32_bits (Some n) = if nat_lt n (2 ^ 32) then Some n else None

-- decimal digits, at least one, of a value of at most 4294967295
abbrev pub number_word : List ℕ → Option ℕ
number_word [] = None
number_word (b ∷ bytes) = at_most_32_bits (value_behind 0 (b ∷ bytes))

-- one number more, where all are numbers
abbrev pub number_before : Option ℕ → Option (List ℕ) → Option (List ℕ)
number_before None ns = None
number_before (Some n) None = None
number_before (Some n) (Some ns) = Some (n ∷ ns)

-- the numbers that the words are, where all are
abbrev pub numbers : List (List ℕ) → Option (List ℕ)
numbers [] = Some []
numbers (word ∷ words) = number_before (number_word word) (numbers words)

abbrev pub flag_word : List ℕ → Option Bool
flag_word word =
    if bytes_eq word (codes "0") then Some false
    else if bytes_eq word (codes "1") then Some true
    else None

abbrev pub decoded : Result (List ℕ) FromHexError → Option (List ℕ)
decoded (Ok bytes) = Some bytes
decoded (Err error) = None

-- an even number of hexadecimal digits, or `-` for no bytes
abbrev pub hex : List ℕ → Option (List ℕ)
hex word = if bytes_eq word (codes "-") then Some [] else decoded (decode_of word)

abbrev pub kind : List ℕ → Option ComponentExportKind
kind word =
    if bytes_eq word (codes "module") then Some kinds.Module
    else if bytes_eq word (codes "func") then Some kinds.Func
    else if bytes_eq word (codes "value") then Some kinds.Value
    else if bytes_eq word (codes "type") then Some kinds.«Type»
    else if bytes_eq word (codes "instance") then Some kinds.Instance
    else if bytes_eq word (codes "component") then Some kinds.Component
    else None

-- what an import of this kind with this index refers to
abbrev pub reference_word : ComponentExportKind → ℕ → ComponentTypeRef
reference_word kinds.Module i = refs.Module i
reference_word kinds.Func i = refs.Func i
reference_word kinds.Value i = refs.Value (values.«Type» i)
reference_word kinds.«Type» i = refs.«Type» (Eq i)
reference_word kinds.Instance i = refs.Instance i
reference_word kinds.Component i = refs.Component i
