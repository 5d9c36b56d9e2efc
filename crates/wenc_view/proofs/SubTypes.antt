-- The tables of composite types and of sub types, and what is made of what they find.
use Rattle.std.proofs.Common.{ℕ, false, true, [], ◌∷◌, Option, Some, refl}
use Rattle.wenc_base.specs.Prelude.{Array, Composite, Func, Struct, Sub, composite_rows, final}
use Rattle.wenc_base.specs.Prelude.{final_rows, read_closed, read_composite, read_extension}
use Rattle.wenc_base.specs.Prelude.{read_field_type, read_list, read_option, read_u32}
use Rattle.wenc_base.specs.Prelude.{read_val_type, sub_of, sub_rows}
use Rattle.wenc_view.proofs.Rows.{Follows, RowsFollow, then_follows, last_follows, both_follow}
use Rattle.wenc_view.proofs.Rows.{choices_follow}

pub composites_follow : {A B : Type 0} (make : A → B) (f : Composite → A) → RowsFollow make (composite_rows f) (composite_rows (λ c. make (f c)))
composites_follow make f = (
  refl,
  (
    then_follows make (read_list read_val_type) _ _ (λ params. last_follows make (read_list read_val_type) (λ results. f (Func params results))),
    (refl, (last_follows make read_field_type (λ e. f (Array e)), (refl, (last_follows make (read_list read_field_type) (λ fields. f (Struct fields)), tt)))),
  ),
)

closed_follows : {A B : Type 0} (make : A → B) (f : ℕ → Composite → A) → Follows make (read_closed f) (read_closed (λ n c. make (f n c)))
closed_follows make f = choices_follow make _ _ (refl, (then_follows make read_u32 _ _ (λ n. last_follows make read_composite (f n)), tt))

pub extension_follows : {A B : Type 0} (make : A → B) (f : Option ℕ → Composite → A) → Follows make (read_extension f) (read_extension (λ n c. make (f n c)))
extension_follows make f = then_follows make (read_option read_u32) _ _ (λ n. last_follows make read_composite (f n))

pub finals_follow : {A B : Type 0} (make : A → B) (f : Sub → A) → RowsFollow make (final_rows f) (final_rows (λ s. make (f s)))
finals_follow make f = both_follow make (composite_rows (λ c. f (final c))) ((0x4f, read_closed (λ n c. f (sub_of true (Some n) c))) ∷ [])
    (composite_rows (λ c. make (f (final c)))) ((0x4f, read_closed (λ n c. make (f (sub_of true (Some n) c)))) ∷ [])
    (composites_follow make (λ c. f (final c))) (refl, (closed_follows make (λ n c. f (sub_of true (Some n) c)), tt))

pub subs_follow : {A B : Type 0} (make : A → B) (f : Sub → A) → RowsFollow make (sub_rows f) (sub_rows (λ s. make (f s)))
subs_follow make f = both_follow make (final_rows f) ((0x50, read_extension (λ n c. f (sub_of false n c))) ∷ []) (final_rows (λ s. make (f s)))
    ((0x50, read_extension (λ n c. make (f (sub_of false n c)))) ∷ [])
    (finals_follow make f) (refl, (extension_follows make (λ n c. f (sub_of false n c)), tt))
