use Rattle.wenc_types.specs.CoreTypes.{Grouped}
use Rattle.wenc_types.proofs.encoders.core_type.ComponentCoreTypeEncoder.core.Goals as goal

pub new-requires-clause-whole : goal.new-requires-clause-whole
new-requires-clause-whole g c ty = c.args.self.whole (Grouped ty)
