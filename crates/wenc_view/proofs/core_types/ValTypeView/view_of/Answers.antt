use Rattle.std.proofs.Common.{rules, ◌∙◌, refl}
use Rattle.wenc_base.specs.declared.types.ValType.TheVariants.{Ref}
use Rattle.wenc_base.specs.Prelude.{Bad, give, number_rows, read_reference, reference_rows}
use Rattle.wenc_view.proofs.Rows.{wraps}
use Rattle.wenc_view.proofs.ValTypes.{references_follow}
use Rattle.wenc_read.specs.Prelude.{fails_on}
use Rattle.wenc_view.proofs.core_types.ValTypeView.view_of.Goals as goal

pub returns-in-Ok-clause-found : goal.returns-in-Ok-clause-found
returns-in-Ok-clause-found c =
    wraps Ref (reference_rows (λ r. r)) (reference_rows Ref) (number_rows (λ t. t)) (references_follow Ref (λ r. r)) _ _ _ c.in_ok-rest.ensures.found (search rules)
    ∙ rw c.in-Ok.ensures.found refl

pub returns-in-Err-clause-found : goal.returns-in-Err-clause-found
returns-in-Err-clause-found c =
    rw (wraps Ref (reference_rows (λ r. r)) (reference_rows Ref) (number_rows (λ t. t)) (references_follow Ref (λ r. r)) _ _ _ c.in_ok-rest.ensures.found
    (search rules))
    (fails_on Bad (read_reference c.args.bytes.now) (λ r. give (Ref r)) c.in-Err.ensures.found)
