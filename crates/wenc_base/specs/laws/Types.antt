-- The laws of value types of core modules.
use Rattle.std.proofs.Common.{ℕ, Bool, true, false, List, [], ◌∷◌, ◌++◌, refl, arith, inl, inr}
use Rattle.wenc_base.specs.Piece.{Form, Wide, ◌▸◌}
use Rattle.wenc_base.specs.laws.Sound.{Sound, RowsAreSound, both_tables, given_rows, give_tells}
use Rattle.wenc_base.specs.laws.Sound.{last_tells, nowhere_tells, choose_tells}
use Rattle.wenc_base.specs.Readers.{Lawful, Reader, choose}
use Rattle.wenc_base.specs.laws.Lawful.{row_lawful, row_byte, or_widely_lawful, past, last}
use Rattle.wenc_base.specs.laws.Numbers.{index_lawful, index_sound, index_starts}
use Rattle.wenc_base.specs.declared.types.ValType.{ValType}
use Rattle.wenc_base.specs.declared.types.ValType.TheVariants.{I32, I64, F32, F64, V128, Ref}
use Rattle.wenc_base.specs.declared.types.RefType.{RefType}
use Rattle.wenc_base.specs.declared.types.HeapType.{HeapType}
use Rattle.wenc_base.specs.declared.types.HeapType.TheVariants.{Abstract, Concrete}
use Rattle.wenc_base.specs.declared.types.AbstractHeapType.{AbstractHeapType}
use Rattle.wenc_base.specs.declared.types.AbstractHeapType.TheVariants.{Func, Extern, Any, None}
use Rattle.wenc_base.specs.declared.types.AbstractHeapType.TheVariants.{NoExtern, NoFunc, Eq}
use Rattle.wenc_base.specs.declared.types.AbstractHeapType.TheVariants.{Struct, Array, I31, Exn}
use Rattle.wenc_base.specs.declared.types.AbstractHeapType.TheVariants.{NoExn}
use Rattle.wenc_base.specs.Types.{abstract_byte, abstract_type, heap_type, nullable, reference_to, reference, val_type}
use Rattle.wenc_base.specs.reading.Types.{abstract_rows, long_rows, number_rows, read_abstract}
use Rattle.wenc_base.specs.reading.Types.{read_heap_type, read_reference, read_val_type}
use Rattle.wenc_base.specs.reading.Types.{reference_rows, to, val_type_rows}

-- an abstract type, where other rows may follow in the table
abstract_row : {A : Type 0} (make : AbstractHeapType → A) (rows : ℕ → List (ℕ × Reader A))
    (other : ℕ → Reader A) (t : AbstractHeapType)
    → Lawful (abstract_type t) (λ fuel. choose (abstract_rows make ++ rows fuel) (other fuel)) (make t)
abstract_row make rows other NoExn = row_byte _ _ 0x74 (λ fuel rest. refl)
abstract_row make rows other NoFunc = row_byte _ _ 0x73 (λ fuel rest. refl)
abstract_row make rows other NoExtern = row_byte _ _ 0x72 (λ fuel rest. refl)
abstract_row make rows other None = row_byte _ _ 0x71 (λ fuel rest. refl)
abstract_row make rows other Func = row_byte _ _ 0x70 (λ fuel rest. refl)
abstract_row make rows other Extern = row_byte _ _ 0x6f (λ fuel rest. refl)
abstract_row make rows other Any = row_byte _ _ 0x6e (λ fuel rest. refl)
abstract_row make rows other Eq = row_byte _ _ 0x6d (λ fuel rest. refl)
abstract_row make rows other I31 = row_byte _ _ 0x6c (λ fuel rest. refl)
abstract_row make rows other Struct = row_byte _ _ 0x6b (λ fuel rest. refl)
abstract_row make rows other Array = row_byte _ _ 0x6a (λ fuel rest. refl)
abstract_row make rows other Exn = row_byte _ _ 0x69 (λ fuel rest. refl)

abbrev pub abstract_types : List AbstractHeapType
abstract_types = NoExn ∷ NoFunc ∷ NoExtern ∷ None ∷ Func ∷ Extern ∷ Any ∷ Eq ∷ I31 ∷ Struct ∷ Array ∷ Exn ∷ []

-- each row of a table of abstract types
abstract_rows_sound : {A : Type 0} (form : Form A) (make : AbstractHeapType → A)
    → ((t : AbstractHeapType) (rest : List ℕ) → (form (make t)).Reads Wide
    (abstract_byte t ∷ rest) rest) → RowsAreSound form (abstract_rows make)
abstract_rows_sound form make k = given_rows form abstract_byte make k abstract_types

pub abstract_type_lawful : (t : AbstractHeapType) → Lawful (abstract_type t) (λ fuel. read_abstract) t
abstract_type_lawful t = abstract_row (λ u. u) (λ fuel. []) _ t

pub heap_type_lawful : (h : HeapType) → Lawful (heap_type h) (λ fuel. read_heap_type) h
heap_type_lawful (Abstract t) = abstract_row Abstract (λ fuel. []) _ t
heap_type_lawful (Concrete n) = past _ _
    (λ fuel. index_starts _ (λ b lt. omega arith) (λ b le. omega arith) n)
    (last Concrete (index_lawful n))

pub heap_type_sound : Sound heap_type read_heap_type
heap_type_sound = choose_tells _ _ (abstract_rows_sound heap_type Abstract (λ t rest. refl))
    (last_tells Concrete index_sound (λ n bytes rest r. r))

-- a reference, where other rows may follow in the table
module _ {A : Type 0} (make : RefType → A) (rows : ℕ → List (ℕ × Reader A)) (other : ℕ → Reader A) where
  abbrev table : ℕ → Reader A
  table fuel = choose (reference_rows make ++ rows fuel) (other fuel)

  short : (t : AbstractHeapType) → Lawful (abstract_type t) table (make (to true (Abstract t)))
  short t = abstract_row (λ u. make (to true (Abstract u))) (λ fuel. long_rows make ++ rows fuel) other t

  long : (h : HeapType) → Lawful (0x63 ▸ heap_type h) table (make (to true h))
  long h = row_lawful _ _ 0x63 (last (λ g. make (to true g)) (heap_type_lawful h))

  reference_row : (is_nullable : Bool) (h : HeapType) → Lawful (reference_to is_nullable h) table
      (make (to is_nullable h))
  reference_row false h = row_lawful _ _ 0x64 (last (λ g. make (to false g)) (heap_type_lawful h))
  reference_row true (Concrete n) = long (Concrete n)
  reference_row true (Abstract Func) = or_widely_lawful (short Func) (long (Abstract Func))
  reference_row true (Abstract Extern) = or_widely_lawful (short Extern) (long (Abstract Extern))
  reference_row true (Abstract t) = or_widely_lawful (long (Abstract t)) (short t)

-- a nullable reference is read in either spelling
short_nullable : (t : AbstractHeapType) (rest : List ℕ) → (nullable (Abstract t)).Reads Wide
    (abstract_byte t ∷ rest) rest
short_nullable Func rest = inl refl
short_nullable Extern rest = inl refl
short_nullable t rest = inr (tt, refl)

long_nullable : (h : HeapType) (bytes rest : List ℕ) → (heap_type h).Reads Wide bytes rest
    → (nullable h).Reads Wide (0x63 ∷ bytes) rest
long_nullable (Abstract Func) bytes rest r = inr (tt, (bytes, refl, r))
long_nullable (Abstract Extern) bytes rest r = inr (tt, (bytes, refl, r))
long_nullable (Abstract t) bytes rest r = inl (bytes, refl, r)
long_nullable (Concrete n) bytes rest r = (bytes, refl, r)

-- each row of a table of references
pub reference_rows_sound : {A : Type 0} (form : Form A) (make : RefType → A)
    → ((r : RefType) (bytes rest : List ℕ) → (reference r).Reads Wide bytes rest
    → (form (make r)).Reads Wide bytes rest) → RowsAreSound form (reference_rows make)
reference_rows_sound form make k = both_tables form (abstract_rows
    (λ t. make (to true (Abstract t)))) (long_rows make) (abstract_rows_sound form
    (λ t. make (to true (Abstract t)))
    (λ t rest. k (to true (Abstract t)) _ rest (short_nullable t rest))) (
      last_tells (λ h. make (to true h)) heap_type_sound
          (λ h bytes rest r. k (to true h) _ rest (long_nullable h bytes rest r)),
      (
        last_tells (λ h. make (to false h)) heap_type_sound
            (λ h bytes rest r. k (to false h) _ rest (bytes, refl, r)),
        tt,
      ),
    )

pub reference_lawful : (r : RefType) → Lawful (reference r) (λ fuel. read_reference) r
reference_lawful r = reference_row (λ s. s) (λ fuel. []) _ r.nullable r.heap_type

pub reference_sound : Sound reference read_reference
reference_sound = choose_tells _ _ (reference_rows_sound reference (λ r. r) (λ r bytes rest h. h)) nowhere_tells

-- a value type, where other rows may follow in the table
pub val_type_row : {A : Type 0} (make : ValType → A) (rows : ℕ → List (ℕ × Reader A))
    (other : ℕ → Reader A) (t : ValType)
    → Lawful (val_type t) (λ fuel. choose (val_type_rows make ++ rows fuel) (other fuel)) (make t)
val_type_row make rows other I32 = row_byte _ _ 0x7f (λ fuel rest. refl)
val_type_row make rows other I64 = row_byte _ _ 0x7e (λ fuel rest. refl)
val_type_row make rows other F32 = row_byte _ _ 0x7d (λ fuel rest. refl)
val_type_row make rows other F64 = row_byte _ _ 0x7c (λ fuel rest. refl)
val_type_row make rows other V128 = row_byte _ _ 0x7b (λ fuel rest. refl)
val_type_row make rows other (Ref r) = reference_row (λ s. make (Ref s))
    (λ fuel. number_rows make ++ rows fuel) other r.nullable r.heap_type

pub val_type_lawful : (t : ValType) → Lawful (val_type t) (λ fuel. read_val_type) t
val_type_lawful t = val_type_row (λ u. u) (λ fuel. []) _ t

-- each row of a table of value types
pub val_type_rows_sound : {A : Type 0} (form : Form A) (make : ValType → A)
    → ((t : ValType) (bytes rest : List ℕ) → (val_type t).Reads Wide bytes rest
    → (form (make t)).Reads Wide bytes rest) → RowsAreSound form (val_type_rows make)
val_type_rows_sound form make k = both_tables form (reference_rows (λ r. make (Ref r)))
    (number_rows make) (reference_rows_sound form (λ r. make (Ref r)) (λ r. k (Ref r))) (
      give_tells _ (λ bytes. k I32 _ bytes refl),
      (
        give_tells _ (λ bytes. k I64 _ bytes refl),
        (
          give_tells _ (λ bytes. k F32 _ bytes refl),
          (
            give_tells _ (λ bytes. k F64 _ bytes refl),
            (give_tells _ (λ bytes. k V128 _ bytes refl), tt),
          ),
        ),
      ),
    )

pub val_type_sound : Sound val_type read_val_type
val_type_sound = choose_tells _ _ (val_type_rows_sound val_type (λ t. t) (λ t bytes rest r. r)) nowhere_tells
