-- The errors of reading: at which place, and what is expected there.
use Rattle.std.specs.Prelude.{ℕ, zero, suc, ◌+◌, List, [], ◌∷◌, length, ◌&&◌, ◌||◌, not}
use Rattle.std.specs.Prelude.{nat_eq, nat_lt, if◌then◌else◌}
use Rattle.wenc_read.specs.Expected.{is_number}
use Rattle.wenc_read.specs.declared.expected.Expected.{Expected}
use Rattle.wenc_read.specs.declared.expected.Expected.TheVariants.{Bytes, Bits, From, Index}
use Rattle.wenc_read.specs.declared.refusal.NestedRefusal.{NestedRefusal}
use Rattle.wenc_read.specs.declared.refusal.NestedRefusal.TheVariants.{Flat, TooDeep}
use Rattle.wenc_read.specs.declared.refusal.Refusal.{Refusal}

-- at the first of these bytes
abbrev pub expected_at : List ℕ → Expected → Refusal
expected_at bytes expected = record { left = length bytes; expected = expected }

-- at the byte before them
abbrev pub expected_before : List ℕ → Expected → Refusal
expected_before bytes expected = record { left = length bytes + 1; expected = expected }

-- Why no byte begins the bytes: there is none.
abbrev pub byte_error : List ℕ → Refusal
byte_error bytes = expected_at bytes (Bytes 1)

-- Why no flag begins the bytes: there is no byte, or another one.
abbrev pub flag_error : List ℕ → Refusal
flag_error [] = byte_error []
flag_error (b ∷ bytes) = expected_at (b ∷ bytes) (From 0 1)

-- Why no number of so many bits, in at most room + 1 bytes, the last one below top, begins the
-- bytes: they end in it, its last one is too large, or it is, from the first of the whole bytes on.
abbrev pub number_error : ℕ → ℕ → List ℕ → ℕ → List ℕ → Refusal
number_error top bits whole room [] = byte_error []
number_error top bits whole zero (b ∷ bytes) = expected_at whole (Bits bits)
number_error top bits whole (suc room) (b ∷ bytes) =
    if nat_lt b top then expected_at whole (Bits bits)
    else (if nat_lt b 128 then expected_at (b ∷ bytes) Index
    else number_error top bits whole room bytes)

-- Where the first byte is what can't be read, another expectation stands in place of that of the
-- error, but for a number that is too large.
abbrev pub or_else : List ℕ → Expected → Refusal → Refusal
or_else bytes expected error = if nat_eq error.left (length bytes) && not (is_number error.expected)
    then expected_at bytes expected else error

-- Where the first byte isn't from the first to the last one, that is why.
abbrev pub unless_between : ℕ → ℕ → List ℕ → Refusal → Refusal
unless_between first last [] error = error
unless_between first last (b ∷ bytes) error = if nat_lt b first || nat_lt last b
    then expected_at (b ∷ bytes) (From first last) else error

-- Where there are fewer bytes, that is why.
abbrev pub unless_few : ℕ → List ℕ → Refusal → Refusal
unless_few count bytes error = if nat_lt (length bytes) count
    then expected_at bytes (Bytes count) else error

-- the same of an error of a form that may nest, unless a type is too deep
abbrev pub in_flat : (Refusal → Refusal) → NestedRefusal → NestedRefusal
in_flat change (Flat error) = Flat (change error)
in_flat change (TooDeep left) = TooDeep left
