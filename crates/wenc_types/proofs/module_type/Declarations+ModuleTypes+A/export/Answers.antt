use Rattle.std.proofs.Common.{refl}
use Rattle.wenc_base.specs.Prelude.{entity_type, name}
use Rattle.wenc_types.specs.Prelude.{ModuleExport, is_declaration, module_declaration, module_space}
use Rattle.wenc_types.proofs.Serving.{pair_serves}
use Rattle.wenc_types.proofs.module_type.Declarations+ModuleTypes+A.export.Goals as goal

pub returns : goal.returns
returns g c = c.add.ensures (ModuleExport c.args.name.now c.args.ty) (pair_serves 0x03 (name c.args.name.now) (entity_type c.args.ty)) refl

pub add-requires : goal.add-requires
add-requires g c = is_declaration module_declaration module_space (ModuleExport c.args.name.now c.args.ty)
    (pair_serves 0x03 (name c.args.name.now) (entity_type c.args.ty)) refl
