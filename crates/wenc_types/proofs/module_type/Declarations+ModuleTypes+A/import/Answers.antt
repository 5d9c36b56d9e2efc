use Rattle.std.proofs.Common.{refl}
use Rattle.wenc_types.specs.Prelude.{ModuleImport, is_declaration, module_declaration, module_space}
use Rattle.wenc_types.proofs.Serving.{import_serves}
use Rattle.wenc_types.proofs.module_type.Declarations+ModuleTypes+A.import.Goals as goal

pub returns : goal.returns
returns g c = c.add.ensures (ModuleImport c.args.module.now c.args.name.now c.args.ty) (import_serves c.args.module.now c.args.name.now c.args.ty) refl

pub add-requires : goal.add-requires
add-requires g c = is_declaration module_declaration module_space (ModuleImport c.args.module.now c.args.name.now c.args.ty)
    (import_serves c.args.module.now c.args.name.now c.args.ty) refl
