-- The builtin that an opcode and the values of its fields determine, for the code that writes them.
use Rattle.std.specs.Prelude.{◌≡◌, ℕ, ◌==◌, false, if◌then◌else◌, List, [], ◌∷◌, ◌++◌, None}
use Rattle.wenc_base.specs.Piece.{Piece, ◌▸◌}
use Rattle.wenc_base.specs.declared.types.ValType.TheVariants.{I32}
use Rattle.wenc_canon.specs.declared.canonicals.CanonicalOption.{CanonicalOption}
use Rattle.wenc_canon.specs.Canonicals.{Field, Index, Options, Flag, Zero, CoreType, Results}
use Rattle.wenc_canon.specs.Canonicals.{Value, Values, fields, Builtin, ResourceNew, Row, row, name_of}
use Rattle.wenc_canon.specs.Canonicals.{builtins, Canonical, Lift, Lower, OfBuiltin}

-- the byte that a canonical function begins with
abbrev pub row_first_byte : Canonical → ℕ
row_first_byte (Lift function options type_index) = 0x00
row_first_byte (Lower function options) = 0x01
row_first_byte (OfBuiltin i values) = (row i).opcode

-- the builtin with this opcode, of these
abbrev pub first_with : ℕ → List Builtin → Builtin
first_with opcode [] = ResourceNew
first_with opcode (i ∷ is) = if (row i).opcode == opcode then i else first_with opcode is

-- the row with this opcode
abbrev pub row_with : ℕ → Row
row_with opcode = row (first_with opcode builtins)

-- the builtin with this opcode has this name, whatever values it has
abbrev pub HasName : ℕ → List ℕ → Type 0
HasName opcode name =
    (vs : Values (row_with opcode).fields) → name_of (first_with opcode builtins) vs ≡ name

-- some value
abbrev pub any_value : (f : Field) → Value f
any_value Index = 0
any_value Options = []
any_value Flag = false
any_value Zero = tt
any_value CoreType = I32
any_value Results = None

abbrev pub any_values : (fs : List Field) → Values fs
any_values [] = tt
any_values (f ∷ []) = any_value f
any_values (f ∷ g ∷ fs) = (any_value f, any_values (g ∷ fs))

-- a value of one field as one of another: itself, where they are the same
abbrev pub as_value : (f g : Field) → Value f → Value g
as_value Index Index n = n
as_value Options Options os = os
as_value Flag Flag b = b
as_value Zero Zero v = v
as_value CoreType CoreType t = t
as_value Results Results r = r
as_value f g v = any_value g

abbrev pub as_values : (fs gs : List Field) → Values fs → Values gs
as_values (f ∷ []) (g ∷ []) v = as_value f g v
as_values (f ∷ h ∷ fs) (g ∷ k ∷ gs) vs = (as_value f g vs.0, as_values (h ∷ fs) (k ∷ gs) vs.1)
as_values fs gs vs = any_values gs

-- the builtin with this opcode and these values
abbrev pub builtin_by : ℕ → (fs : List Field) → Values fs → Canonical
builtin_by opcode fs vs =
    let i : Builtin = first_with opcode builtins in
    OfBuiltin i (as_values fs (row i).fields vs)

-- ---- fields, and options after them

abbrev pub and_options : List Field → List Field
and_options fs = fs ++ Options ∷ []

-- their values, and the options
abbrev pub values_then : (fs : List Field) → Values fs → List CanonicalOption
    → Values (and_options fs)
values_then [] vs os = os
values_then (f ∷ []) v os = (v, os)
values_then (f ∷ g ∷ fs) vs os = (vs.0, values_then (g ∷ fs) vs.1 os)

-- what begins with this opcode and has these fields and options
abbrev pub row_then : ℕ → (fs : List Field) → Values fs → List CanonicalOption → Piece
row_then opcode fs vs os = opcode ▸ fields (and_options fs) (values_then fs vs os)

-- the builtin that it is
abbrev pub builtin_with : ℕ → (fs : List Field) → Values fs → List CanonicalOption → Canonical
builtin_with opcode fs vs os = builtin_by opcode (and_options fs) (values_then fs vs os)
