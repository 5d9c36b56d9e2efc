use Rattle.wenc_types.specs.DefinedTypes.{Tuple}
use Rattle.wenc_types.proofs.encoders.defined_type.ComponentDefinedTypeEncoder.tuple.Goals as goal

pub end_with_list-requires-clause-whole : goal.end_with_list-requires-clause-whole
end_with_list-requires-clause-whole g c vs = c.args.self.whole (Tuple vs)
