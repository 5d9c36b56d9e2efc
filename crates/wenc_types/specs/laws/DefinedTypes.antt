-- The laws of types of values that components define, and of types of functions.
use Rattle.std.proofs.Common.{ℕ, Bool, true, false, List, [], ◌++◌, Option, refl}
use Rattle.wenc_base.specs.Prelude.{Form, Lawful, Reader, RowsAreSound, Sound, Wide, choose}
use Rattle.wenc_base.specs.Prelude.{choose_tells, give_tells, last, last_tells, list_lawful}
use Rattle.wenc_base.specs.Prelude.{list_sound, name_lawful, name_sound, nowhere, nowhere_tells}
use Rattle.wenc_base.specs.Prelude.{option_lawful, option_sound, row_byte, row_lawful, then}
use Rattle.wenc_base.specs.Prelude.{then_tells, u32_lawful, u32_sound}
use Rattle.wenc_parts.specs.Prelude.{primitive_rows, result_list_lawful, value_type_lawful}
use Rattle.wenc_parts.specs.Prelude.{value_type_sound}
use Rattle.wenc_parts.specs.declared.types.ComponentValType.{ComponentValType}
use Rattle.wenc_parts.specs.laws.Types.{primitive_row}
use Rattle.wenc_types.specs.DefinedTypes.{LabelledType, labelled_type, Case, case, DefValType}
use Rattle.wenc_types.specs.DefinedTypes.{Primitive, Record, Variant, ListOf, MapOf}
use Rattle.wenc_types.specs.DefinedTypes.{FixedLengthList, Tuple, Flags, Enumeration, OptionOf}
use Rattle.wenc_types.specs.DefinedTypes.{ResultOf, Own, Borrow, Future, Stream, def_val_type}
use Rattle.wenc_types.specs.DefinedTypes.{Function, function_type}
use Rattle.wenc_types.specs.reading.DefinedTypes.{defined_rows, function_rows, read_case}
use Rattle.wenc_types.specs.reading.DefinedTypes.{read_defined, read_labelled_type, to_case}
use Rattle.wenc_types.specs.reading.DefinedTypes.{to_function, to_named}

-- ---- parts

pub labelled_type_lawful : (f : LabelledType) → Lawful (labelled_type f) (λ fuel. read_labelled_type) f
labelled_type_lawful f = then _ (name_lawful f.name) (last (to_named f.name) (value_type_lawful f.ty))

pub named_sound : Sound labelled_type read_labelled_type
named_sound = then_tells _ name_sound
    (λ name. last_tells (to_named name) value_type_sound
    (λ ty middle rest r bytes p. (middle, p, r)))

pub case_lawful : (c : Case) → Lawful (case c) (λ fuel. read_case) c
case_lawful c = then _ (name_lawful c.name)
    (then _ (option_lawful value_type_lawful c.ty) (row_byte _ _ 0x00 (λ fuel rest. refl)))

pub case_sound : Sound case read_case
case_sound = then_tells _ name_sound
    (λ name. then_tells _ (option_sound value_type_sound)
    (λ ty. choose_tells _ _ (
      give_tells (to_case name ty)
          (λ rest b q bytes p. (b, p, (_, q, refl))),
      tt,
    ) nowhere_tells))

-- ---- defined types

-- a defined type, where other rows may follow in the table
pub defined_row : {A : Type 0} (make : DefValType → A) (rows : ℕ → List (ℕ × Reader A))
    (other : ℕ → Reader A) (t : DefValType)
    → Lawful (def_val_type t) (λ fuel. choose (primitive_rows (λ p. make (Primitive p))
    ++ (defined_rows make ++ rows fuel)) (other fuel)) (make t)
defined_row make rows other (Primitive p) =
    primitive_row (λ q. make (Primitive q)) (λ fuel. defined_rows make ++ rows fuel) other p
defined_row make rows other (Record fields) =
    row_lawful _ _ 0x72 (last (λ fs. make (Record fs)) (list_lawful labelled_type_lawful fields))
defined_row make rows other (Variant cases) =
    row_lawful _ _ 0x71 (last (λ cs. make (Variant cs)) (list_lawful case_lawful cases))
defined_row make rows other (ListOf element) =
    row_lawful _ _ 0x70 (last (λ t. make (ListOf t)) (value_type_lawful element))
defined_row make rows other (Tuple elements) =
    row_lawful _ _ 0x6f (last (λ ts. make (Tuple ts)) (list_lawful value_type_lawful elements))
defined_row make rows other (Flags names) =
    row_lawful _ _ 0x6e (last (λ ns. make (Flags ns)) (list_lawful name_lawful names))
defined_row make rows other (Enumeration names) =
    row_lawful _ _ 0x6d (last (λ ns. make (Enumeration ns)) (list_lawful name_lawful names))
defined_row make rows other (OptionOf ty) = row_lawful _ _ 0x6b (last (λ t. make (OptionOf t)) (value_type_lawful ty))
defined_row make rows other (ResultOf ok error) =
    row_lawful _ _ 0x6a (then _ (option_lawful value_type_lawful ok)
    (last (λ e. make (ResultOf ok e)) (option_lawful value_type_lawful error)))
defined_row make rows other (Own number) = row_lawful _ _ 0x69 (last (λ n. make (Own n)) (u32_lawful number))
defined_row make rows other (Borrow number) = row_lawful _ _ 0x68 (last (λ n. make (Borrow n)) (u32_lawful number))
defined_row make rows other (FixedLengthList element length) =
    row_lawful _ _ 0x67 (then _ (value_type_lawful element)
    (last (λ n. make (FixedLengthList element n)) (u32_lawful length)))
defined_row make rows other (Stream ty) =
    row_lawful _ _ 0x66 (last (λ t. make (Stream t)) (option_lawful value_type_lawful ty))
defined_row make rows other (Future ty) =
    row_lawful _ _ 0x65 (last (λ t. make (Future t)) (option_lawful value_type_lawful ty))
defined_row make rows other (MapOf key value) = row_lawful _ _ 0x63
    (then _ (value_type_lawful key) (last (λ t. make (MapOf key t)) (value_type_lawful value)))

-- each row of a table of defined types
pub defined_rows_sound : {A : Type 0} (form : Form A) (make : DefValType → A)
    → ((t : DefValType) (bytes rest : List ℕ) → (def_val_type t).Reads Wide bytes rest
    → (form (make t)).Reads Wide bytes rest) → RowsAreSound form (defined_rows make)
defined_rows_sound form make k = (
  last_tells (λ fields. make (Record fields)) (list_sound named_sound)
      (λ v bytes rest r. k (Record v) _ rest (bytes, refl, r)),
  (
    last_tells (λ cases. make (Variant cases)) (list_sound case_sound)
        (λ v bytes rest r. k (Variant v) _ rest (bytes, refl, r)),
    (
      last_tells (λ t. make (ListOf t)) value_type_sound (λ v bytes rest r. k (ListOf v) _ rest (bytes, refl, r)),
      (
        last_tells (λ ts. make (Tuple ts)) (list_sound value_type_sound)
            (λ v bytes rest r. k (Tuple v) _ rest (bytes, refl, r)),
        (
          last_tells (λ ns. make (Flags ns)) (list_sound name_sound)
              (λ v bytes rest r. k (Flags v) _ rest (bytes, refl, r)),
          (
            last_tells (λ ns. make (Enumeration ns)) (list_sound name_sound)
                (λ v bytes rest r. k (Enumeration v) _ rest (bytes, refl, r)),
            (
              last_tells (λ t. make (OptionOf t)) value_type_sound
                  (λ v bytes rest r. k (OptionOf v) _ rest (bytes, refl, r)),
              (
                then_tells _ (option_sound value_type_sound)
                    (λ ok. last_tells (λ e. make (ResultOf ok e)) (option_sound value_type_sound)
                    (λ e middle rest r bytes p. k (ResultOf ok e) _ rest
                    (bytes, refl, (middle, p, r)))),
                (
                  last_tells (λ n. make (Own n)) u32_sound (λ v bytes rest r. k (Own v) _ rest (bytes, refl, r)),
                  (
                    last_tells (λ n. make (Borrow n)) u32_sound
                        (λ v bytes rest r. k (Borrow v) _ rest (bytes, refl, r)),
                    (
                      then_tells _ value_type_sound
                          (λ t. last_tells (λ n. make (FixedLengthList t n)) u32_sound
                          (λ n middle rest r bytes p. k (FixedLengthList t n) _ rest
                          (bytes, refl, (middle, p, r)))),
                      (
                        last_tells (λ t. make (Stream t)) (option_sound value_type_sound)
                            (λ v bytes rest r. k (Stream v) _ rest (bytes, refl, r)),
                        (
                          last_tells (λ t. make (Future t)) (option_sound value_type_sound)
                              (λ v bytes rest r. k (Future v) _ rest (bytes, refl, r)),
                          (
                            then_tells _ value_type_sound
                                (λ key. last_tells (λ t. make (MapOf key t)) value_type_sound
                                (λ t middle rest r bytes p. k (MapOf key t) _ rest
                                (bytes, refl, (middle, p, r)))),
                            tt,
                          ),
                        ),
                      ),
                    ),
                  ),
                ),
              ),
            ),
          ),
        ),
      ),
    ),
  ),
)

pub defined_type_lawful : (t : DefValType) → Lawful (def_val_type t) (λ fuel. read_defined) t
defined_type_lawful t = defined_row (λ u. u) (λ fuel. []) _ t

-- ---- types of functions

-- the type of a function, where other rows may follow in the table
pub function_row : {A : Type 0} (make : Function → A) (rows : ℕ → List (ℕ × Reader A))
    (other : ℕ → Reader A) (is_async : Bool) (params : List LabelledType)
    (answer : Option ComponentValType)
    → Lawful (function_type (to_function is_async params answer))
    (λ fuel. choose (function_rows make ++ rows fuel) (other fuel))
    (make (to_function is_async params answer))
function_row make rows other false params answer =
    row_lawful _ _ 0x40 (then _ (list_lawful labelled_type_lawful params)
    (last (λ a. make (to_function false params a)) (result_list_lawful answer)))
function_row make rows other true params answer =
    row_lawful _ _ 0x43 (then _ (list_lawful labelled_type_lawful params)
    (last (λ a. make (to_function true params a)) (result_list_lawful answer)))

abbrev pub read_function : Reader Function
read_function = choose (function_rows (λ f. f)) nowhere

pub function_type_lawful : (f : Function) → Lawful (function_type f) (λ fuel. read_function) f
function_type_lawful f = function_row (λ g. g) (λ fuel. []) _ f.is_async f.params f.answer
