-- The laws of value types.
use Rattle.std.proofs.Common.{◌≡◌, ap, ℕ, List, [], ◌∷◌, ◌++◌, Option, Some, None, refl, arith}
use Rattle.wenc_base.specs.Prelude.{Form, Lawful, Reader, RowsAreSound, Sound, Wide, choose}
use Rattle.wenc_base.specs.Prelude.{choose_tells, give_tells, given_rows, index_lawful, index_sound}
use Rattle.wenc_base.specs.Prelude.{index_starts, last, last_tells, nowhere_tells, past, row_byte}
use Rattle.wenc_base.specs.Prelude.{row_lawful}
use Rattle.wenc_parts.specs.declared.types.PrimitiveValType.{PrimitiveValType}
use Rattle.wenc_parts.specs.declared.types.PrimitiveValType.TheVariants.{Bool, S8, U8, S16, U16}
use Rattle.wenc_parts.specs.declared.types.PrimitiveValType.TheVariants.{S32, U32, S64, U64, F32}
use Rattle.wenc_parts.specs.declared.types.PrimitiveValType.TheVariants.{F64, Char, String}
use Rattle.wenc_parts.specs.declared.types.PrimitiveValType.TheVariants.{ErrorContext}
use Rattle.wenc_parts.specs.declared.types.ComponentValType.{ComponentValType}
use Rattle.wenc_parts.specs.declared.types.ComponentValType.TheVariants.{Primitive, «Type» as TypeIndex}
use Rattle.wenc_parts.specs.declared.types.ResultList.{ResultList}
use Rattle.wenc_parts.specs.Types.{primitive_byte, primitive, value_type, result_list}
use Rattle.wenc_parts.specs.reading.Types.{primitive_rows, read_primitive, read_result_list, read_value_type}

-- a primitive type, where others may follow in the table
pub primitive_row : {A : Type 0} (make : PrimitiveValType → A) (rows : ℕ → List (ℕ × Reader A))
    (other : ℕ → Reader A) (p : PrimitiveValType)
    → Lawful (primitive p) (λ fuel. choose (primitive_rows make ++ rows fuel) (other fuel)) (make p)
primitive_row make rows other Bool = row_byte _ _ 0x7f (λ fuel rest. refl)
primitive_row make rows other S8 = row_byte _ _ 0x7e (λ fuel rest. refl)
primitive_row make rows other U8 = row_byte _ _ 0x7d (λ fuel rest. refl)
primitive_row make rows other S16 = row_byte _ _ 0x7c (λ fuel rest. refl)
primitive_row make rows other U16 = row_byte _ _ 0x7b (λ fuel rest. refl)
primitive_row make rows other S32 = row_byte _ _ 0x7a (λ fuel rest. refl)
primitive_row make rows other U32 = row_byte _ _ 0x79 (λ fuel rest. refl)
primitive_row make rows other S64 = row_byte _ _ 0x78 (λ fuel rest. refl)
primitive_row make rows other U64 = row_byte _ _ 0x77 (λ fuel rest. refl)
primitive_row make rows other F32 = row_byte _ _ 0x76 (λ fuel rest. refl)
primitive_row make rows other F64 = row_byte _ _ 0x75 (λ fuel rest. refl)
primitive_row make rows other Char = row_byte _ _ 0x74 (λ fuel rest. refl)
primitive_row make rows other String = row_byte _ _ 0x73 (λ fuel rest. refl)
primitive_row make rows other ErrorContext = row_byte _ _ 0x64 (λ fuel rest. refl)

abbrev pub primitives : List PrimitiveValType
primitives = Bool ∷ S8 ∷ U8 ∷ S16 ∷ U16 ∷ S32 ∷ U32 ∷ S64 ∷ U64 ∷ F32 ∷ F64 ∷ Char ∷ String ∷ ErrorContext ∷ []

-- each row of a table of primitive types
pub primitive_rows_sound : {A : Type 0} (form : Form A) (make : PrimitiveValType → A)
    → ((p : PrimitiveValType) (rest : List ℕ) → (form (make p)).Reads Wide
    (primitive_byte p ∷ rest) rest) → RowsAreSound form (primitive_rows make)
primitive_rows_sound form make k = given_rows form primitive_byte make k primitives

pub primitive_lawful : (p : PrimitiveValType) → Lawful (primitive p) (λ fuel. read_primitive) p
primitive_lawful p = primitive_row (λ q. q) (λ fuel. []) _ p

pub value_type_lawful : (t : ComponentValType) → Lawful (value_type t) (λ fuel. read_value_type) t
value_type_lawful (Primitive p) = primitive_row Primitive (λ fuel. []) _ p
value_type_lawful (TypeIndex n) = past _ _
    (λ fuel. index_starts _ (λ b lt. omega arith) (λ b le. omega arith) n)
    (last TypeIndex (index_lawful n))

pub value_type_sound : Sound value_type read_value_type
value_type_sound = choose_tells _ _ (primitive_rows_sound value_type Primitive (λ p rest. refl))
    (last_tells TypeIndex index_sound (λ n bytes rest r. r))

pub result_list_lawful : (r : Option ComponentValType) → Lawful (result_list r) (λ fuel. read_result_list) r
result_list_lawful (Some t) = row_lawful _ _ 0x00 (last Some (value_type_lawful t))
result_list_lawful None = row_lawful _ _ 0x01 (row_byte _ _ 0x00 (λ fuel rest. refl))

pub result_list_sound : Sound result_list read_result_list
result_list_sound = choose_tells _ _ (
  last_tells Some value_type_sound (λ t bytes rest r. (bytes, refl, r)),
  (choose_tells _ _ (give_tells None (λ bytes. (_, refl, refl)), tt) nowhere_tells, tt),
) nowhere_tells

-- result lists with the same type are the same
pub same_result_list : (a b : ResultList) → a.0 ≡ b.0 → a ≡ b
same_result_list a b e = ap (λ (r : Option ComponentValType). let list : ResultList = record { 0 = r } in list) e
