use Rattle.wenc_types.specs.ComponentTypes.{FunctionType}
use Rattle.wenc_types.proofs.encoders.ty.ComponentTypeEncoder.function.Goals as goal

pub new-requires-clause-whole : goal.new-requires-clause-whole
new-requires-clause-whole g c f = c.args.self.whole (FunctionType f)
