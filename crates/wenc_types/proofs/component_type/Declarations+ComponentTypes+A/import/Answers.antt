use Rattle.std.proofs.Common.{refl}
use Rattle.wenc_parts.specs.Prelude.{extern_name, extern_name_view, type_reference}
use Rattle.wenc_types.specs.Prelude.{Imported, component_declaration, component_space}
use Rattle.wenc_types.specs.Prelude.{is_declaration}
use Rattle.wenc_types.proofs.Serving.{pair_serves}
use Rattle.wenc_types.proofs.component_type.Declarations+ComponentTypes+A.import.Goals as goal

pub returns : goal.returns
returns g c =
    c.add.ensures (Imported (extern_name_view c.args.name) c.args.ty)
    (pair_serves 0x03 (extern_name (extern_name_view c.args.name)) (type_reference c.args.ty))
    (rw (c.space_of_kind.ensures, c.kind.ensures.is) refl)

pub add-requires : goal.add-requires
add-requires g c =
    is_declaration component_declaration component_space (Imported (extern_name_view c.args.name) c.args.ty)
    (pair_serves 0x03 (extern_name (extern_name_view c.args.name)) (type_reference c.args.ty))
    (rw (c.space_of_kind.ensures, c.kind.ensures.is) refl)
