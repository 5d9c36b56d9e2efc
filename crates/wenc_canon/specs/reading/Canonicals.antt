-- Readers of canonical functions.
use Rattle.std.specs.Prelude.{ℕ, List, [], ◌∷◌, map}
use Rattle.wenc_base.specs.Readers.{Reader, ◌>>=◌, give, nowhere, choose}
use Rattle.wenc_base.specs.reading.Numbers.{read_u32}
use Rattle.wenc_base.specs.reading.Forms.{read_flag, read_list}
use Rattle.wenc_base.specs.reading.Types.{read_val_type}
use Rattle.wenc_parts.specs.reading.Types.{read_result_list}
use Rattle.wenc_canon.specs.declared.canonicals.CanonicalOption.{CanonicalOption}
use Rattle.wenc_canon.specs.declared.canonicals.CanonicalOption.TheVariants.{UTF8, UTF16}
use Rattle.wenc_canon.specs.declared.canonicals.CanonicalOption.TheVariants.{CompactUTF16, Memory}
use Rattle.wenc_canon.specs.declared.canonicals.CanonicalOption.TheVariants.{Realloc, PostReturn}
use Rattle.wenc_canon.specs.declared.canonicals.CanonicalOption.TheVariants.{Async, Callback}
use Rattle.wenc_canon.specs.declared.canonicals.CanonicalOption.TheVariants.{CoreType as CoreTypeOption}
use Rattle.wenc_canon.specs.declared.canonicals.CanonicalOption.TheVariants.{Gc}
use Rattle.wenc_canon.specs.Canonicals.{Field, Index, Options, Flag, Zero, CoreType, Results, Value}
use Rattle.wenc_canon.specs.Canonicals.{Values, Builtin, row, builtins, Canonical, Lift, Lower}
use Rattle.wenc_canon.specs.Canonicals.{OfBuiltin}

-- ---- options

abbrev pub read_canonical_option : Reader CanonicalOption
read_canonical_option = choose (
    (0x00, give UTF8) ∷
    (0x01, give UTF16) ∷
    (0x02, give CompactUTF16) ∷
    (0x03, read_u32 >>= λ n. give (Memory n)) ∷
    (0x04, read_u32 >>= λ n. give (Realloc n)) ∷
    (0x05, read_u32 >>= λ n. give (PostReturn n)) ∷
    (0x06, give Async) ∷
    (0x07, read_u32 >>= λ n. give (Callback n)) ∷
    (0x08, read_u32 >>= λ n. give (CoreTypeOption n)) ∷
    (0x09, give Gc) ∷ []) nowhere

-- ---- fields

abbrev pub read_field : (f : Field) → Reader (Value f)
read_field Index = read_u32
read_field Options = read_list read_canonical_option
read_field Flag = read_flag
read_field Zero = choose ((0x00, give tt) ∷ []) nowhere
read_field CoreType = read_val_type
read_field Results = read_result_list

abbrev pub read_fields : (fs : List Field) → Reader (Values fs)
read_fields [] = give tt
read_fields (f ∷ []) = read_field f
read_fields (f ∷ g ∷ fs) = read_field f >>= λ v. read_fields (g ∷ fs) >>= λ vs. give (v, vs)

-- ---- canonical functions

abbrev pub read_builtin : Builtin → ℕ × Reader Canonical
read_builtin i = ((row i).opcode, read_fields (row i).fields >>= λ vs. give (OfBuiltin i vs))

abbrev pub read_lift : Reader Canonical
read_lift =
    read_u32 >>= λ f. read_list read_canonical_option >>= λ os. read_u32 >>= λ t.
    give (Lift f os t)

abbrev pub read_lower : Reader Canonical
read_lower = read_u32 >>= λ f. read_list read_canonical_option >>= λ os. give (Lower f os)

-- what follows the opcode: a byte 00, then the function
abbrev pub read_lifted : Reader Canonical
read_lifted = choose ((0x00, read_lift) ∷ []) nowhere

abbrev pub read_lowered : Reader Canonical
read_lowered = choose ((0x00, read_lower) ∷ []) nowhere

abbrev pub rows : List (ℕ × Reader Canonical)
rows = (0x00, read_lifted) ∷ (0x01, read_lowered) ∷ map read_builtin builtins

abbrev pub read_canonical : Reader Canonical
read_canonical = choose rows nowhere
