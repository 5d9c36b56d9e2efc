use Rattle.std.proofs.Common.{List, subst}
use Rattle.wenc_types.specs.Prelude.{InstanceDeclares, InstanceDeclaration}
use Rattle.proved_parts.proofs.InARow.{four_in_a_row}
use Rattle.proved_parts.proofs.declared.exported.Goals as goal

pub returns-clause-declared : goal.returns-clause-declared
returns-clause-declared g c ds h =
    subst (λ (es : List InstanceDeclaration). InstanceDeclares c.alias.new.self es) (four_in_a_row ds _ _ _ _)
    (c.in_ok-alias.ensures.declared _ (c.in_ok-export.ensures.declared _
    (c.in_ok-of_instance.ensures.added.declared _ (c.in_ok-of_type.ensures.added.declared ds h))))
