use Rattle.wenc_base.specs.Forms.{option}
use Rattle.wenc_parts.specs.Types.{value_type}
use Rattle.wenc_base.specs.laws.Parents.{whole_for}
use Rattle.wenc_types.specs.DefinedTypes.{ResultOf}
use Rattle.wenc_types.proofs.Serving.{pair_serves, ends_for}
use Rattle.wenc_types.proofs.encoders.defined_type.ComponentDefinedTypeEncoder.result.Goals as goal

pub returns : goal.returns
returns g c = ends_for g.L.Parent.appended g.L.Parent.ended g.L.Parent.refuses
    (pair_serves 0x6a (option value_type c.args.ok) (option value_type c.args.err)) c.end_with.ensures.ended

pub end_with-requires-clause-whole : goal.end_with-requires-clause-whole
end_with-requires-clause-whole g c =
    whole_for g.L.Parent.is_whole g.L.Parent.appended c.args.self.parent.now
    (pair_serves 0x6a (option value_type c.args.ok) (option value_type c.args.err)) (c.args.self.whole (ResultOf c.args.ok c.args.err))
