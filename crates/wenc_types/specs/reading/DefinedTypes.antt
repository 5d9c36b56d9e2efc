-- Readers of types of values that components define, and of types of functions.
use Rattle.std.specs.Prelude.{ℕ, Bool, true, false, List, [], ◌∷◌, ◌++◌, Option}
use Rattle.wenc_base.specs.reading.Forms.{read_list, read_name, read_option}
use Rattle.wenc_base.specs.Readers.{Reader, ◌>>=◌, give, nowhere, choose}
use Rattle.wenc_base.specs.reading.Numbers.{read_u32}
use Rattle.wenc_parts.specs.declared.types.ComponentValType.{ComponentValType}
use Rattle.wenc_parts.specs.reading.Types.{primitive_rows, read_value_type, read_result_list}
use Rattle.wenc_types.specs.DefinedTypes.{LabelledType, Case, DefValType, Primitive, Record}
use Rattle.wenc_types.specs.DefinedTypes.{Variant, ListOf, MapOf, FixedLengthList, Tuple, Flags}
use Rattle.wenc_types.specs.DefinedTypes.{Enumeration, OptionOf, ResultOf, Own, Borrow, Future}
use Rattle.wenc_types.specs.DefinedTypes.{Stream, Function}

-- ---- parts

abbrev pub to_named : List ℕ → ComponentValType → LabelledType
to_named name ty = record { name = name; ty = ty }

abbrev pub read_labelled_type : Reader LabelledType
read_labelled_type = read_name >>= λ name. read_value_type >>= λ ty. give (to_named name ty)

abbrev pub to_case : List ℕ → Option ComponentValType → Case
to_case name ty = record { name = name; ty = ty }

abbrev pub read_type_or_none : Reader (Option ComponentValType)
read_type_or_none = read_option read_value_type

-- the byte after a case
abbrev pub read_end : {A : Type 0} → A → Reader A
read_end v = choose ((0x00, give v) ∷ []) nowhere

abbrev pub read_case : Reader Case
read_case = read_name >>= λ name. read_type_or_none >>= λ ty. read_end (to_case name ty)

-- ---- defined types

abbrev pub defined_rows : {A : Type 0} → (DefValType → A) → List (ℕ × Reader A)
defined_rows make =
    (0x72, read_list read_labelled_type >>= λ fields. give (make (Record fields))) ∷
    (0x71, read_list read_case >>= λ cases. give (make (Variant cases))) ∷
    (0x70, read_value_type >>= λ element. give (make (ListOf element))) ∷
    (0x6f, read_list read_value_type >>= λ elements. give (make (Tuple elements))) ∷
    (0x6e, read_list read_name >>= λ names. give (make (Flags names))) ∷
    (0x6d, read_list read_name >>= λ names. give (make (Enumeration names))) ∷
    (0x6b, read_value_type >>= λ ty. give (make (OptionOf ty))) ∷
    (0x6a, read_type_or_none >>= λ ok. read_type_or_none >>= λ e. give (make (ResultOf ok e))) ∷
    (0x69, read_u32 >>= λ number. give (make (Own number))) ∷
    (0x68, read_u32 >>= λ number. give (make (Borrow number))) ∷
    (0x67, read_value_type >>= λ t. read_u32 >>= λ n. give (make (FixedLengthList t n))) ∷
    (0x66, read_type_or_none >>= λ ty. give (make (Stream ty))) ∷
    (0x65, read_type_or_none >>= λ ty. give (make (Future ty))) ∷
    (0x63, read_value_type >>= λ k. read_value_type >>= λ v. give (make (MapOf k v))) ∷ []

abbrev pub read_defined : Reader DefValType
read_defined = choose (primitive_rows Primitive ++ defined_rows (λ t. t)) nowhere

-- ---- types of functions

abbrev pub to_function : Bool → List LabelledType → Option ComponentValType → Function
to_function is_async params answer =
    record { is_async = is_async; params = params; answer = answer }

abbrev pub read_signature : {A : Type 0} → Bool → (Function → A) → Reader A
read_signature is_async make =
    read_list read_labelled_type >>= λ params. read_result_list >>= λ answer.
    give (make (to_function is_async params answer))

abbrev pub function_rows : {A : Type 0} → (Function → A) → List (ℕ × Reader A)
function_rows make = (0x40, read_signature false make) ∷ (0x43, read_signature true make) ∷ []
