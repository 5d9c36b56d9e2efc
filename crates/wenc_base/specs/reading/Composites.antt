-- Readers of types that core modules define.
use Rattle.std.specs.Prelude.{ℕ, Bool, true, false, List, [], ◌∷◌, ◌++◌, Option, Some}
use Rattle.wenc_base.specs.Readers.{Reader, ◌>>=◌, give, nowhere, choose}
use Rattle.wenc_base.specs.reading.Numbers.{read_u32}
use Rattle.wenc_base.specs.reading.Forms.{read_flag, read_list, read_option}
use Rattle.wenc_base.specs.reading.Types.{val_type_rows, read_val_type}
use Rattle.wenc_base.specs.declared.types.storage.StorageType.{StorageType}
use Rattle.wenc_base.specs.declared.types.storage.StorageType.TheVariants.{I8, I16, Val}
use Rattle.wenc_base.specs.declared.types.storage.FieldType.{FieldType}
use Rattle.wenc_base.specs.Composites.{Composite, Func, Array, Struct, Sub, final, RecType, Single, Rec}

-- ---- fields

abbrev pub small_rows : List (ℕ × Reader StorageType)
small_rows = (0x78, give I8) ∷ (0x77, give I16) ∷ []

abbrev pub read_storage_type : Reader StorageType
read_storage_type = choose (val_type_rows Val ++ small_rows) nowhere

abbrev pub field_of : StorageType → Bool → FieldType
field_of t mutable = record { element_type = t; mutable = mutable }

abbrev pub read_field_type : Reader FieldType
read_field_type = read_storage_type >>= λ t. read_flag >>= λ mutable. give (field_of t mutable)

-- ---- composite types

abbrev pub read_func : {A : Type 0} → (Composite → A) → Reader A
read_func make =
    read_list read_val_type >>= λ params. read_list read_val_type >>= λ results.
    give (make (Func params results))

abbrev pub composite_rows : {A : Type 0} → (Composite → A) → List (ℕ × Reader A)
composite_rows make =
    (0x60, read_func make) ∷
    (0x5e, read_field_type >>= λ f. give (make (Array f))) ∷
    (0x5f, read_list read_field_type >>= λ fields. give (make (Struct fields))) ∷ []

abbrev pub read_composite : Reader Composite
read_composite = choose (composite_rows (λ c. c)) nowhere

-- ---- sub types

-- what is extended, if anything, and how
abbrev pub read_extension : {A : Type 0} → (Option ℕ → Composite → A) → Reader A
read_extension make =
    read_option read_u32 >>= λ supertype. read_composite >>= λ c. give (make supertype c)

-- what is extended by a type that can't be extended: it has no long spelling without that
abbrev pub read_closed : {A : Type 0} → (ℕ → Composite → A) → Reader A
read_closed make =
    choose ((0x01, read_u32 >>= λ n. read_composite >>= λ c. give (make n c)) ∷ []) nowhere

abbrev pub sub_of : Bool → Option ℕ → Composite → Sub
sub_of is_final supertype c = record { is_final = is_final; supertype = supertype; composite = c }

abbrev pub final_rows : {A : Type 0} → (Sub → A) → List (ℕ × Reader A)
final_rows make =
    composite_rows (λ c. make (final c)) ++
    ((0x4f, read_closed (λ n c. make (sub_of true (Some n) c))) ∷ [])

abbrev pub sub_rows : {A : Type 0} → (Sub → A) → List (ℕ × Reader A)
sub_rows make =
    final_rows make ++
    ((0x50, read_extension (λ supertype c. make (sub_of false supertype c))) ∷ [])

abbrev pub read_sub_type : Reader Sub
read_sub_type = choose (sub_rows (λ s. s)) nowhere

-- ---- groups

abbrev pub read_types : {A : Type 0} → (RecType → A) → Reader A
read_types make = read_list read_sub_type >>= λ types. give (make (Rec types))

abbrev pub group_rows : {A : Type 0} → (RecType → A) → List (ℕ × Reader A)
group_rows make = sub_rows (λ s. make (Single s)) ++ ((0x4e, read_types make) ∷ [])

abbrev pub read_group : Reader RecType
read_group = choose (group_rows (λ g. g)) nowhere
