-- Types of values that components define, and types of functions (component model, binary format,
-- "Type Definitions").
use Rattle.std.specs.Prelude.{ℕ, Bool, if◌then◌else◌, List, Option}
use Rattle.std.specs.Borrow.{Bor}
use Rattle.wenc_base.specs.Piece.{Form, byte, ◌▸◌, ◌⨾◌}
use Rattle.wenc_base.specs.Number.{u32}
use Rattle.wenc_base.specs.Forms.{list, option, name as name_form}
use Rattle.wenc_parts.specs.Types.{primitive, value_type, result_list}
use Rattle.wenc_parts.specs.declared.types.PrimitiveValType.{PrimitiveValType}
use Rattle.wenc_parts.specs.declared.types.ComponentValType.{ComponentValType}

-- a field or a parameter
pub record LabelledType : Type 0 where
  pub name : List ℕ
  pub ty : ComponentValType

abbrev pub labelled_type : Form LabelledType
labelled_type f = name_form f.name ⨾ value_type f.ty

-- a case, with a value or without; the byte is for cases that refine another, of which there are
-- none
pub record Case : Type 0 where
  pub name : List ℕ
  pub ty : Option ComponentValType

abbrev pub case : Form Case
case c = name_form c.name ⨾ option value_type c.ty ⨾ byte 0x00

-- a type of values, with all that it is made of
pub data DefValType : Type 0 where
  Primitive : (ty : PrimitiveValType) → DefValType
  Record : (fields : List LabelledType) → DefValType
  Variant : (cases : List Case) → DefValType
  ListOf : (element : ComponentValType) → DefValType
  MapOf : (key value : ComponentValType) → DefValType
  FixedLengthList : (element : ComponentValType) (length : ℕ) → DefValType
  Tuple : (elements : List ComponentValType) → DefValType
  Flags Enumeration : (names : List (List ℕ)) → DefValType
  OptionOf : (ty : ComponentValType) → DefValType
  ResultOf : (ok error : Option ComponentValType) → DefValType
  -- handles of the resource type with this index
  Own Borrow : (number : ℕ) → DefValType
  Future Stream : (ty : Option ComponentValType) → DefValType

abbrev pub def_val_type : Form DefValType
def_val_type (Primitive p) = primitive p
def_val_type (Record fields) = 0x72 ▸ list labelled_type fields
def_val_type (Variant cases) = 0x71 ▸ list case cases
def_val_type (ListOf element) = 0x70 ▸ value_type element
def_val_type (Tuple elements) = 0x6f ▸ list value_type elements
def_val_type (Flags names) = 0x6e ▸ list name_form names
def_val_type (Enumeration names) = 0x6d ▸ list name_form names
def_val_type (OptionOf ty) = 0x6b ▸ value_type ty
def_val_type (ResultOf ok error) = 0x6a ▸ (option value_type ok ⨾ option value_type error)
def_val_type (Own number) = 0x69 ▸ u32 number
def_val_type (Borrow number) = 0x68 ▸ u32 number
def_val_type (FixedLengthList element length) = 0x67 ▸ (value_type element ⨾ u32 length)
def_val_type (Stream ty) = 0x66 ▸ option value_type ty
def_val_type (Future ty) = 0x65 ▸ option value_type ty
def_val_type (MapOf key value) = 0x63 ▸ (value_type key ⨾ value_type value)

-- a function: whether it is asynchronous, its parameters, and its result
pub record Function : Type 0 where
  pub is_async : Bool
  pub params : List LabelledType
  pub answer : Option ComponentValType

-- the byte that says whether it is asynchronous
abbrev pub async_byte : Bool → ℕ
async_byte is_async = if is_async then 0x43 else 0x40

abbrev pub function_type : Form Function
function_type f = async_byte f.is_async ▸ (list labelled_type f.params ⨾ result_list f.answer)

-- ---- what an iterator gives, as pure values

abbrev pub borrowed_labelled_type : Bor (List ℕ) × ComponentValType → LabelledType
borrowed_labelled_type f = record { name = f.0.now; ty = f.1 }

abbrev pub borrowed_case : Bor (List ℕ) × Option ComponentValType → Case
borrowed_case c = record { name = c.0.now; ty = c.1 }
