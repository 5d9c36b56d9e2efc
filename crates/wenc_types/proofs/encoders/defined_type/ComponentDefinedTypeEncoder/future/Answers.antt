use Rattle.wenc_types.specs.DefinedTypes.{Future}
use Rattle.wenc_types.proofs.encoders.defined_type.ComponentDefinedTypeEncoder.future.Goals as goal

pub end_with-requires-clause-whole : goal.end_with-requires-clause-whole
end_with-requires-clause-whole g c = c.args.self.whole (Future c.args.payload)
