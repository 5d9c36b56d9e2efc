use Rattle.wenc_types.specs.DefinedTypes.{Borrow}
use Rattle.wenc_types.proofs.encoders.defined_type.ComponentDefinedTypeEncoder.borrow.Goals as goal

pub end_with-requires-clause-whole : goal.end_with-requires-clause-whole
end_with-requires-clause-whole g c = c.args.self.whole (Borrow c.args.index)
