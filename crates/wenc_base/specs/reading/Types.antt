-- Readers of value types of core modules.
use Rattle.std.specs.Prelude.{ℕ, Bool, true, false, List, [], ◌∷◌, ◌++◌}
use Rattle.wenc_base.specs.Readers.{Reader, ◌>>=◌, give, nowhere, choose}
use Rattle.wenc_base.specs.reading.Numbers.{read_index}
use Rattle.wenc_base.specs.declared.types.ValType.{ValType}
use Rattle.wenc_base.specs.declared.types.ValType.TheVariants.{I32, I64, F32, F64, V128, Ref}
use Rattle.wenc_base.specs.declared.types.RefType.{RefType}
use Rattle.wenc_base.specs.declared.types.HeapType.{HeapType}
use Rattle.wenc_base.specs.declared.types.HeapType.TheVariants.{Abstract, Concrete}
use Rattle.wenc_base.specs.declared.types.AbstractHeapType.{AbstractHeapType}
use Rattle.wenc_base.specs.declared.types.AbstractHeapType.TheVariants.{Func, Extern, Any, None}
use Rattle.wenc_base.specs.declared.types.AbstractHeapType.TheVariants.{NoExtern, NoFunc, Eq}
use Rattle.wenc_base.specs.declared.types.AbstractHeapType.TheVariants.{Struct, Array, I31, Exn}
use Rattle.wenc_base.specs.declared.types.AbstractHeapType.TheVariants.{NoExn}
use Rattle.wenc_base.specs.Types.{heap_type, nullable}

abbrev pub abstract_rows : {A : Type 0} → (AbstractHeapType → A) → List (ℕ × Reader A)
abstract_rows make =
    (0x74, give (make NoExn)) ∷
    (0x73, give (make NoFunc)) ∷
    (0x72, give (make NoExtern)) ∷
    (0x71, give (make None)) ∷
    (0x70, give (make Func)) ∷
    (0x6f, give (make Extern)) ∷
    (0x6e, give (make Any)) ∷
    (0x6d, give (make Eq)) ∷
    (0x6c, give (make I31)) ∷
    (0x6b, give (make Struct)) ∷
    (0x6a, give (make Array)) ∷
    (0x69, give (make Exn)) ∷ []

abbrev pub read_abstract : Reader AbstractHeapType
read_abstract = choose (abstract_rows (λ t. t)) nowhere

abbrev pub read_heap_type : Reader HeapType
read_heap_type = choose (abstract_rows Abstract) (read_index >>= λ n. give (Concrete n))

abbrev pub to : Bool → HeapType → RefType
to nullable heap_type = record { nullable = nullable; heap_type = heap_type }

abbrev pub long_rows : {A : Type 0} → (RefType → A) → List (ℕ × Reader A)
long_rows make =
    (0x63, read_heap_type >>= λ h. give (make (to true h))) ∷
    (0x64, read_heap_type >>= λ h. give (make (to false h))) ∷ []

abbrev pub reference_rows : {A : Type 0} → (RefType → A) → List (ℕ × Reader A)
reference_rows make = abstract_rows (λ t. make (to true (Abstract t))) ++ long_rows make

abbrev pub read_reference : Reader RefType
read_reference = choose (reference_rows (λ r. r)) nowhere

abbrev pub number_rows : {A : Type 0} → (ValType → A) → List (ℕ × Reader A)
number_rows make =
    (0x7f, give (make I32)) ∷
    (0x7e, give (make I64)) ∷
    (0x7d, give (make F32)) ∷
    (0x7c, give (make F64)) ∷
    (0x7b, give (make V128)) ∷ []

abbrev pub val_type_rows : {A : Type 0} → (ValType → A) → List (ℕ × Reader A)
val_type_rows make = reference_rows (λ r. make (Ref r)) ++ number_rows make

abbrev pub read_val_type : Reader ValType
read_val_type = choose (val_type_rows (λ t. t)) nowhere
