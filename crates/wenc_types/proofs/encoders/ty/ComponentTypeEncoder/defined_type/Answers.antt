use Rattle.wenc_types.specs.ComponentTypes.{DefinedType}
use Rattle.wenc_types.proofs.encoders.ty.ComponentTypeEncoder.defined_type.Goals as goal

pub new-requires-clause-whole : goal.new-requires-clause-whole
new-requires-clause-whole g c ty = c.args.self.whole (DefinedType ty)
