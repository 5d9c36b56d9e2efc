use Rattle.std.proofs.Common.{rules, ◌∙◌, refl}
use Rattle.wenc_base.specs.declared.types.storage.StorageType.TheVariants.{Val}
use Rattle.wenc_base.specs.Prelude.{Bad, give, read_val_type, small_rows, val_type_rows}
use Rattle.wenc_view.proofs.Rows.{wraps}
use Rattle.wenc_view.proofs.ValTypes.{val_types_follow}
use Rattle.wenc_read.specs.Prelude.{fails_on}
use Rattle.wenc_view.proofs.composites.StorageTypeView.view_of.Goals as goal

pub returns-in-Ok-clause-found : goal.returns-in-Ok-clause-found
returns-in-Ok-clause-found c =
    wraps Val (val_type_rows (λ t. t)) (val_type_rows Val) small_rows (val_types_follow Val (λ t. t)) _ _ _ c.in_ok-rest.ensures.found (search rules)
    ∙ rw c.in-Ok.ensures.found refl

pub returns-in-Err-clause-found : goal.returns-in-Err-clause-found
returns-in-Err-clause-found c =
    rw (wraps Val (val_type_rows (λ t. t)) (val_type_rows Val) small_rows (val_types_follow Val (λ t. t)) _ _ _ c.in_ok-rest.ensures.found (search rules))
    (fails_on Bad (read_val_type c.args.bytes.now) (λ t. give (Val t)) c.in-Err.ensures.found)
