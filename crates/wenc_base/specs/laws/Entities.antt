-- The laws of types of what modules import and export.
use Rattle.std.proofs.Common.{ℕ, Bool, true, false, List, [], ◌++◌, Option, Some, None, refl}
use Rattle.wenc_base.specs.Piece.{Form, Wide, ◌▸◌, ◌⨾◌}
use Rattle.wenc_base.specs.Number.{u64}
use Rattle.wenc_base.specs.Readers.{Lawful, Reader, nowhere, choose}
use Rattle.wenc_base.specs.laws.Lawful.{row_lawful, then, last}
use Rattle.wenc_base.specs.laws.Numbers.{u32_lawful, u32_sound, u64_lawful, u64_sound}
use Rattle.wenc_base.specs.laws.Sound.{Sound, sound_behind, behind_value, RowsAreSound, both_tables}
use Rattle.wenc_base.specs.laws.Sound.{last_tells, then_tells, nowhere_tells, choose_tells}
use Rattle.wenc_base.specs.laws.Forms.{flag_lawful, flag_sound}
use Rattle.wenc_base.specs.laws.Types.{reference_lawful, reference_sound, val_type_lawful, val_type_sound}
use Rattle.wenc_base.specs.declared.tables.TableType.{TableType}
use Rattle.wenc_base.specs.declared.memories.MemoryType.{MemoryType}
use Rattle.wenc_base.specs.declared.globals.GlobalType.{GlobalType}
use Rattle.wenc_base.specs.declared.tags.TagType.{TagType}
use Rattle.wenc_base.specs.declared.imports.EntityType.{EntityType}
use Rattle.wenc_base.specs.declared.imports.EntityType.TheVariants.{Function, Table, Memory, Global, Tag}
use Rattle.wenc_base.specs.Types.{reference}
use Rattle.wenc_base.specs.Entities.{limits, table_type, memory_type, global_type, tag_type, entity_type}
use Rattle.wenc_base.specs.reading.Entities.{OfLimits, at_least, between, memory_of}
use Rattle.wenc_base.specs.reading.Entities.{read_entity_type, read_global_type, read_limits}
use Rattle.wenc_base.specs.reading.Entities.{read_memory_type, read_table_type, read_tag_type}
use Rattle.wenc_base.specs.reading.Entities.{shared_rows, table_of, unshared_rows}

-- ---- limits

unshared_lawful : {A : Type 0} (make : Bool → ℕ → Option ℕ → A) (rows : List (ℕ × Reader A))
    (is_long : Bool) (minimum : ℕ) (maximum : Option ℕ)
    → Lawful (limits false is_long minimum maximum)
    (λ fuel. choose (unshared_rows make ++ rows) nowhere) (make is_long minimum maximum)
unshared_lawful make rows false n None = row_lawful _ _ 0x00 (last (λ k. make false k None) (u64_lawful n))
unshared_lawful make rows false n (Some m) =
    row_lawful _ _ 0x01 (then _ (u64_lawful n) (last (λ k. make false n (Some k)) (u64_lawful m)))
unshared_lawful make rows true n None = row_lawful _ _ 0x04 (last (λ k. make true k None) (u64_lawful n))
unshared_lawful make rows true n (Some m) =
    row_lawful _ _ 0x05 (then _ (u64_lawful n) (last (λ k. make true n (Some k)) (u64_lawful m)))

pub limits_lawful : {A : Type 0} (make : OfLimits A) (is_shared is_long : Bool) (minimum : ℕ) (maximum : Option ℕ)
    → Lawful (limits is_shared is_long minimum maximum) (λ fuel. read_limits make)
    (make is_shared is_long minimum maximum)
limits_lawful make false is_long n m = unshared_lawful (make false) (shared_rows (make true)) is_long n m
limits_lawful make true false n None = row_lawful _ _ 0x02 (last (λ k. make true false k None) (u64_lawful n))
limits_lawful make true false n (Some m) = row_lawful _ _ 0x03
    (then _ (u64_lawful n) (last (λ k. make true false n (Some k)) (u64_lawful m)))
limits_lawful make true true n None = row_lawful _ _ 0x06 (last (λ k. make true true k None) (u64_lawful n))
limits_lawful make true true n (Some m) = row_lawful _ _ 0x07
    (then _ (u64_lawful n) (last (λ k. make true true n (Some k)) (u64_lawful m)))

-- a minimum alone, and both, after a byte
least_sound : {A : Type 0} (form : Form A) (b : ℕ) (make : ℕ → Option ℕ → A)
    → ((n : ℕ) (bytes rest : List ℕ) → (b ▸ u64 n).Reads Wide bytes rest
    → (form (make n None)).Reads Wide bytes rest) → Sound (sound_behind b form) (at_least make)
least_sound form b make k = last_tells (λ n. make n None) u64_sound (λ n bytes rest r. k n _ rest (bytes, refl, r))

between_sound : {A : Type 0} (form : Form A) (b : ℕ) (make : ℕ → Option ℕ → A)
    → ((n m : ℕ) (bytes rest : List ℕ) → (b ▸ (u64 n ⨾ u64 m)).Reads Wide bytes rest
    → (form (make n (Some m))).Reads Wide bytes rest) → Sound (sound_behind b form) (between make)
between_sound form b make k = then_tells _ u64_sound
    (λ n. last_tells (λ m. make n (Some m)) u64_sound
    (λ m middle rest r bytes p. k n m _ rest (bytes, refl, (middle, p, r))))

unshared_rows_sound : {A : Type 0} (form : Form A) (make : Bool → ℕ → Option ℕ → A)
    → ((is_long : Bool) (n : ℕ) (m : Option ℕ) (bytes rest : List ℕ)
    → (limits false is_long n m).Reads Wide bytes rest
    → (form (make is_long n m)).Reads Wide bytes rest) → RowsAreSound form (unshared_rows make)
unshared_rows_sound form make k = (
  least_sound form 0x00 (make false) (λ n. k false n None),
  (
    between_sound form 0x01 (make false) (λ n m. k false n (Some m)),
    (
      least_sound form 0x04 (make true) (λ n. k true n None),
      (between_sound form 0x05 (make true) (λ n m. k true n (Some m)), tt),
    ),
  ),
)

shared_rows_sound : {A : Type 0} (form : Form A) (make : Bool → ℕ → Option ℕ → A)
    → ((is_long : Bool) (n : ℕ) (m : Option ℕ) (bytes rest : List ℕ)
    → (limits true is_long n m).Reads Wide bytes rest
    → (form (make is_long n m)).Reads Wide bytes rest) → RowsAreSound form (shared_rows make)
shared_rows_sound form make k = (
  least_sound form 0x02 (make false) (λ n. k false n None),
  (
    between_sound form 0x03 (make false) (λ n m. k false n (Some m)),
    (
      least_sound form 0x06 (make true) (λ n. k true n None),
      (between_sound form 0x07 (make true) (λ n m. k true n (Some m)), tt),
    ),
  ),
)

-- ---- what has limits

pub table_type_lawful : (t : TableType) → Lawful (table_type t) (λ fuel. read_table_type) t
table_type_lawful t = then _ (reference_lawful t.element_type)
    (unshared_lawful (table_of t.element_type) [] t.table64 t.minimum t.maximum)

pub table_type_sound : Sound table_type read_table_type
table_type_sound = then_tells _ reference_sound
    (λ t. choose_tells _ _ (unshared_rows_sound (behind_value reference t table_type) (table_of t)
    (λ is_long n m middle rest r bytes p. (middle, p, r))) nowhere_tells)

pub memory_type_lawful : (m : MemoryType) → Lawful (memory_type m) (λ fuel. read_memory_type) m
memory_type_lawful m = limits_lawful memory_of m.shared m.memory64 m.minimum m.maximum

pub memory_type_sound : Sound memory_type read_memory_type
memory_type_sound = choose_tells _ _
    (both_tables memory_type (unshared_rows (memory_of false)) (shared_rows (memory_of true))
    (unshared_rows_sound memory_type (memory_of false) (λ is_long n m bytes rest r. r))
    (shared_rows_sound memory_type (memory_of true) (λ is_long n m bytes rest r. r))) nowhere_tells

-- ---- the others

pub global_type_lawful : (g : GlobalType) → Lawful (global_type g) (λ fuel. read_global_type) g
global_type_lawful g = then _ (val_type_lawful g.val_type) (last _ (flag_lawful g.mutable))

pub global_type_sound : Sound global_type read_global_type
global_type_sound = then_tells _ val_type_sound
    (λ t. last_tells _ flag_sound (λ mutable middle rest r bytes p. (middle, p, r)))

pub tag_type_lawful : (t : TagType) → Lawful (tag_type t) (λ fuel. read_tag_type) t
tag_type_lawful t = row_lawful _ _ 0x00 (last _ (u32_lawful t.func_type_idx))

pub tag_type_sound : Sound tag_type read_tag_type
tag_type_sound = choose_tells _ _ (last_tells _ u32_sound (λ n bytes rest r. (bytes, refl, r)), tt) nowhere_tells

pub entity_type_lawful : (e : EntityType) → Lawful (entity_type e) (λ fuel. read_entity_type) e
entity_type_lawful (Function n) = row_lawful _ _ 0x00 (last Function (u32_lawful n))
entity_type_lawful (Table t) = row_lawful _ _ 0x01 (last Table (table_type_lawful t))
entity_type_lawful (Memory m) = row_lawful _ _ 0x02 (last Memory (memory_type_lawful m))
entity_type_lawful (Global g) = row_lawful _ _ 0x03 (last Global (global_type_lawful g))
entity_type_lawful (Tag t) = row_lawful _ _ 0x04 (last Tag (tag_type_lawful t))

pub entity_type_sound : Sound entity_type read_entity_type
entity_type_sound = choose_tells _ _ (
  last_tells Function u32_sound (λ n bytes rest r. (bytes, refl, r)),
  (
    last_tells Table table_type_sound (λ t bytes rest r. (bytes, refl, r)),
    (
      last_tells Memory memory_type_sound (λ m bytes rest r. (bytes, refl, r)),
      (
        last_tells Global global_type_sound (λ g bytes rest r. (bytes, refl, r)),
        (last_tells Tag tag_type_sound (λ t bytes rest r. (bytes, refl, r)), tt),
      ),
    ),
  ),
) nowhere_tells
