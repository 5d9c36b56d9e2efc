use Rattle.std.proofs.Common.{List, subst}
use Rattle.wenc_types.specs.Prelude.{ComponentDeclares, ComponentDeclaration}
use Rattle.proved_parts.proofs.InARow.{four_in_a_row}
use Rattle.proved_parts.proofs.declared.aliased.Goals as goal

pub returns-clause-declared : goal.returns-clause-declared
returns-clause-declared g c ds h =
    subst (λ (es : List ComponentDeclaration). ComponentDeclares c.alias_core_type.new.self es) (four_in_a_row ds _ _ _ _)
    (c.in_ok-core_type.ensures.added.declared _ (c.in_ok-outer_type.ensures.added.declared _
    (c.in_ok-other.ensures.added.declared _ (c.in_ok-ty.ensures.added.declared ds h))))
