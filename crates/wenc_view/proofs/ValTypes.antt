-- The tables of value types, and what is made of what they find.
use Rattle.std.proofs.Common.{ℕ, true, false, List, [], ◌∷◌, map, refl}
use Rattle.wenc_base.specs.Prelude.{abstract_byte, abstract_rows, abstract_types, give, long_rows}
use Rattle.wenc_base.specs.Prelude.{number_rows, read_heap_type, reference_rows, to, val_type_rows}
use Rattle.wenc_base.specs.declared.types.RefType.{RefType}
use Rattle.wenc_base.specs.declared.types.ValType.{ValType}
use Rattle.wenc_base.specs.declared.types.HeapType.TheVariants.{Abstract}
use Rattle.wenc_base.specs.declared.types.ValType.TheVariants.{I32, I64, F32, F64, V128, Ref}
use Rattle.wenc_view.proofs.Rows.{RowsFollow, gives_follow, last_follows, both_follow}

-- rows of values that are a byte each
given_follow : {A B T : Type 0} (make : A → B) (byte_of : T → ℕ) (f : T → A) (ts : List T) → RowsFollow make (map (λ t. (byte_of t, give (f t))) ts)
    (map (λ t. (byte_of t, give (make (f t)))) ts)
given_follow make byte_of f [] = tt
given_follow make byte_of f (t ∷ ts) = (refl, (gives_follow make (f t), given_follow make byte_of f ts))

pub references_follow : {A B : Type 0} (make : A → B) (f : RefType → A) → RowsFollow make (reference_rows f) (reference_rows (λ r. make (f r)))
references_follow make f = both_follow make (abstract_rows (λ t. f (to true (Abstract t)))) (long_rows f) (abstract_rows (λ t. make (f (to true (Abstract t)))))
    (long_rows (λ r. make (f r))) (given_follow make abstract_byte (λ t. f (to true (Abstract t))) abstract_types)
    (refl, (last_follows make read_heap_type (λ h. f (to true h)), (refl, (last_follows make read_heap_type (λ h. f (to false h)), tt))))

pub val_types_follow : {A B : Type 0} (make : A → B) (f : ValType → A) → RowsFollow make (val_type_rows f) (val_type_rows (λ t. make (f t)))
val_types_follow make f = both_follow make (reference_rows (λ r. f (Ref r))) (number_rows f) (reference_rows (λ r. make (f (Ref r))))
    (number_rows (λ t. make (f t))) (references_follow make (λ r. f (Ref r))) (
      refl,
      (
        gives_follow make (f I32),
        (
          refl,
          (
            gives_follow make (f I64),
            (
              refl,
              (
                gives_follow make (f F32),
                (
                  refl,
                  (
                    gives_follow make
                        (f F64),
                    (refl, (gives_follow make (f V128), tt)),
                  ),
                ),
              ),
            ),
          ),
        ),
      ),
    )
