-- Readers of types of the imports and exports of modules.
use Rattle.std.specs.Prelude.{ℕ, Bool, true, false, List, [], ◌∷◌, ◌++◌, Option, Some, None}
use Rattle.wenc_base.specs.Readers.{Reader, ◌>>=◌, give, nowhere, choose}
use Rattle.wenc_base.specs.reading.Numbers.{read_u32, read_u64}
use Rattle.wenc_base.specs.reading.Forms.{read_flag}
use Rattle.wenc_base.specs.reading.Types.{read_reference, read_val_type}
use Rattle.wenc_base.specs.declared.types.RefType.{RefType}
use Rattle.wenc_base.specs.declared.tables.TableType.{TableType}
use Rattle.wenc_base.specs.declared.memories.MemoryType.{MemoryType}
use Rattle.wenc_base.specs.declared.globals.GlobalType.{GlobalType}
use Rattle.wenc_base.specs.declared.tags.TagType.{TagType}
use Rattle.wenc_base.specs.declared.imports.EntityType.{EntityType}
use Rattle.wenc_base.specs.declared.imports.EntityType.TheVariants.{Function, Table, Memory, Global, Tag}

-- ---- limits

-- what is made of whether it is shared, whether it is of 64 bits, the minimum and the maximum
abbrev pub OfLimits : Type 0 → Type 0
OfLimits A = Bool → Bool → ℕ → Option ℕ → A

abbrev pub at_least : {A : Type 0} → (ℕ → Option ℕ → A) → Reader A
at_least make = read_u64 >>= λ n. give (make n None)

abbrev pub between : {A : Type 0} → (ℕ → Option ℕ → A) → Reader A
between make = read_u64 >>= λ n. read_u64 >>= λ m. give (make n (Some m))

-- of what is shared, or isn't; what is made of whether it is of 64 bits, the minimum and the
-- maximum
abbrev pub unshared_rows : {A : Type 0} → (Bool → ℕ → Option ℕ → A) → List (ℕ × Reader A)
unshared_rows make =
    (0x00, at_least (make false)) ∷ (0x01, between (make false)) ∷
    (0x04, at_least (make true)) ∷ (0x05, between (make true)) ∷ []

abbrev pub shared_rows : {A : Type 0} → (Bool → ℕ → Option ℕ → A) → List (ℕ × Reader A)
shared_rows make =
    (0x02, at_least (make false)) ∷ (0x03, between (make false)) ∷
    (0x06, at_least (make true)) ∷ (0x07, between (make true)) ∷ []

abbrev pub limit_rows : {A : Type 0} → OfLimits A → List (ℕ × Reader A)
limit_rows make = unshared_rows (make false) ++ shared_rows (make true)

abbrev pub read_unshared : {A : Type 0} → (Bool → ℕ → Option ℕ → A) → Reader A
read_unshared make = choose (unshared_rows make) nowhere

abbrev pub read_limits : {A : Type 0} → OfLimits A → Reader A
read_limits make = choose (limit_rows make) nowhere

-- ---- what has limits

abbrev pub table_of : RefType → Bool → ℕ → Option ℕ → TableType
table_of r is_long n m = record { element_type = r; table64 = is_long; minimum = n; maximum = m }

abbrev pub read_table_type : Reader TableType
read_table_type = read_reference >>= λ r. read_unshared (table_of r)

abbrev pub memory_of : OfLimits MemoryType
memory_of is_shared is_long n m =
    record { minimum = n; maximum = m; memory64 = is_long; shared = is_shared }

abbrev pub read_memory_type : Reader MemoryType
read_memory_type = read_limits memory_of

-- ---- the others

abbrev pub read_global_type : Reader GlobalType
read_global_type =
    read_val_type >>= λ t. read_flag >>= λ mutable.
    give (record { val_type = t; mutable = mutable })

abbrev pub read_tag_type : Reader TagType
read_tag_type = choose ((0x00, read_u32 >>= λ n. give (record { func_type_idx = n })) ∷ []) nowhere

abbrev pub read_entity_type : Reader EntityType
read_entity_type = choose (
    (0x00, read_u32 >>= λ n. give (Function n)) ∷
    (0x01, read_table_type >>= λ t. give (Table t)) ∷
    (0x02, read_memory_type >>= λ m. give (Memory m)) ∷
    (0x03, read_global_type >>= λ g. give (Global g)) ∷
    (0x04, read_tag_type >>= λ t. give (Tag t)) ∷ []) nowhere
