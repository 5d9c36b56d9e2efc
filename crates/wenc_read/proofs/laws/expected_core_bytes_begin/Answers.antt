use Rattle.std.proofs.Common.{ℕ, List, [], ◌∷◌, refl}
use Rattle.wenc_base.specs.Readers.{choose}
use Rattle.wenc_base.specs.Prelude.{read_heap_type, read_reference, read_val_type}
use Rattle.wenc_base.specs.Prelude.{read_storage_type, read_sub_type, read_group, read_index}
use Rattle.wenc_base.specs.reading.Numbers.{read_groups}
use Rattle.wenc_read.specs.Prelude.{OthersFail, begins, choose_fails, index_fails, nowhere_fails}
use Rattle.wenc_read.specs.Prelude.{ranges_of, then_fails}
use Rattle.wenc_read.specs.declared.expected.Expected.TheVariants.{Index, HeapType, RefType}
use Rattle.wenc_read.specs.declared.expected.Expected.TheVariants.{ValType, StorageType}
use Rattle.wenc_read.specs.declared.expected.Expected.TheVariants.{SubType, Group}
use Rattle.wenc_read.proofs.laws.expected_core_bytes_begin.Goals as goal

-- what makes a type of a first byte after which no zero can be
abbrev pub after_guard : List (ℕ × List ℕ)
after_guard =
    (0x4f, 1 ∷ 0 ∷ 0x5f ∷ 0 ∷ []) ∷ (0x50, 0 ∷ 0x5f ∷ 0 ∷ []) ∷ (0x5e, 0x7f ∷ 0 ∷ []) ∷ []

number_fails : OthersFail read_index (ranges_of Index)
number_fails = index_fails refl

pub returns-clause-index : goal.returns-clause-index
unfolding choose read_groups
returns-clause-index c = begins Index [] number_fails refl

heap_type_fails : OthersFail read_heap_type (ranges_of HeapType)
heap_type_fails = choose_fails _ _ refl (then_fails _ (index_fails refl))

pub returns-clause-heap_type : goal.returns-clause-heap_type
unfolding choose read_groups
returns-clause-heap_type c = begins HeapType [] heap_type_fails refl

ref_type_fails : OthersFail read_reference (ranges_of RefType)
ref_type_fails = choose_fails _ _ refl nowhere_fails

pub returns-clause-ref_type : goal.returns-clause-ref_type
unfolding choose read_groups
returns-clause-ref_type c = begins RefType [] ref_type_fails refl

val_type_fails : OthersFail read_val_type (ranges_of ValType)
val_type_fails = choose_fails _ _ refl nowhere_fails

pub returns-clause-val_type : goal.returns-clause-val_type
unfolding choose read_groups
returns-clause-val_type c = begins ValType [] val_type_fails refl

storage_type_fails : OthersFail read_storage_type (ranges_of StorageType)
storage_type_fails = choose_fails _ _ refl nowhere_fails

pub returns-clause-storage_type : goal.returns-clause-storage_type
unfolding choose read_groups
returns-clause-storage_type c = begins StorageType [] storage_type_fails refl

sub_type_fails : OthersFail read_sub_type (ranges_of SubType)
sub_type_fails = choose_fails _ _ refl nowhere_fails

pub returns-clause-sub_type : goal.returns-clause-sub_type
unfolding choose read_groups
returns-clause-sub_type c = begins SubType after_guard sub_type_fails refl

group_fails : OthersFail read_group (ranges_of Group)
group_fails = choose_fails _ _ refl nowhere_fails

pub returns-clause-group : goal.returns-clause-group
unfolding choose read_groups
returns-clause-group c = begins Group after_guard group_fails refl
