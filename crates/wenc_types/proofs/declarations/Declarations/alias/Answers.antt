use Rattle.wenc_base.specs.Prelude.{serves_itself}
use Rattle.wenc_parts.specs.Prelude.{alias_view}
use Rattle.wenc_types.specs.Prelude.{Aliased, adds_declared, is_declared}
use Rattle.wenc_types.proofs.declarations.Declarations.alias.Goals as goal

pub returns : goal.returns
returns g c =
    let own = Aliased (alias_view c.args.alias) in
    adds_declared g.K.DeclaredKind.form g.K.DeclaredKind.space own serves_itself c.space_of_alias-space.ensures _ _ _ _
    (g.met.K.DeclaringKind.declares own) c.add.ensures

pub add-requires : goal.add-requires
add-requires g c =
    let own = Aliased (alias_view c.args.alias) in
    is_declared g.K.DeclaredKind.form g.K.DeclaredKind.space own serves_itself c.space_of_alias-space.ensures _
    (g.met.K.DeclaringKind.declares own)
