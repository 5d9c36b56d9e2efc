use Rattle.std.proofs.Common.{refl}
use Rattle.wenc_parts.specs.Prelude.{extern_name, extern_name_view, type_reference}
use Rattle.wenc_types.specs.Prelude.{Exported, adds_declared, is_declared}
use Rattle.wenc_types.proofs.Serving.{pair_serves}
use Rattle.wenc_types.proofs.declarations.Declarations.export.Goals as goal

pub returns : goal.returns
returns g c =
    let own = Exported (extern_name_view c.args.name) c.args.ty in
    adds_declared g.K.DeclaredKind.form g.K.DeclaredKind.space own
    (pair_serves 0x04 (extern_name (extern_name_view c.args.name)) (type_reference c.args.ty))
    (rw (c.space_of_kind.ensures, c.kind.ensures.is) refl) _ _ _ _
    (g.met.K.DeclaringKind.declares own) c.add.ensures

pub add-requires : goal.add-requires
add-requires g c =
    let own = Exported (extern_name_view c.args.name) c.args.ty in
    is_declared g.K.DeclaredKind.form g.K.DeclaredKind.space own
    (pair_serves 0x04 (extern_name (extern_name_view c.args.name)) (type_reference c.args.ty))
    (rw (c.space_of_kind.ensures, c.kind.ensures.is) refl) _
    (g.met.K.DeclaringKind.declares own)
