use Rattle.std.proofs.Common.{refl}
use Rattle.wenc_types.specs.Prelude.{ModuleOuter, is_declaration, module_declaration, module_space}
use Rattle.wenc_types.proofs.Serving.{outer_serves}
use Rattle.wenc_types.proofs.module_type.Declarations+ModuleTypes+A.alias_outer_core_type.Goals as goal

pub returns : goal.returns
returns g c = c.add.ensures (ModuleOuter c.args.count c.args.index) (outer_serves c.args.count c.args.index) refl

pub add-requires : goal.add-requires
add-requires g c = is_declaration module_declaration module_space (ModuleOuter c.args.count c.args.index) (outer_serves c.args.count c.args.index) refl
