-- What stands after the first byte of limits.
use Rattle.std.specs.Prelude.{ℕ, Bool, true, false, Option, Some, None}
use Rattle.wenc_base.specs.declared.types.RefType.{RefType}
use Rattle.wenc_base.specs.declared.memories.MemoryType.{MemoryType}
use Rattle.wenc_base.specs.declared.tables.TableType.{TableType}
use Rattle.wenc_base.specs.Readers.{Reader, ◌>>=◌, give}
use Rattle.wenc_base.specs.reading.Numbers.{read_u64}

-- the maximum, where there is one
abbrev pub read_maximum : Bool → Reader (Option ℕ)
read_maximum false = give None
read_maximum true = read_u64 >>= λ m. give (Some m)

-- a minimum, and a maximum where there is one
abbrev pub read_bounds : {A : Type 0} → Bool → (ℕ → Option ℕ → A) → Reader A
read_bounds has_maximum make = read_u64 >>= λ n. read_maximum has_maximum >>= λ m. give (make n m)

abbrev pub memory_so : Bool → Bool → ℕ → Option ℕ → MemoryType
memory_so is_shared is_long n m =
    record { minimum = n; maximum = m; memory64 = is_long; shared = is_shared }

abbrev pub table_so : RefType → Bool → ℕ → Option ℕ → TableType
table_so r is_long n m = record { element_type = r; table64 = is_long; minimum = n; maximum = m }
