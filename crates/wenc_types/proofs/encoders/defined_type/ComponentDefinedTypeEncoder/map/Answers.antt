use Rattle.wenc_parts.specs.Types.{value_type}
use Rattle.wenc_base.specs.laws.Parents.{whole_for}
use Rattle.wenc_types.specs.DefinedTypes.{MapOf}
use Rattle.wenc_types.proofs.Serving.{pair_serves, ends_for}
use Rattle.wenc_types.proofs.encoders.defined_type.ComponentDefinedTypeEncoder.map.Goals as goal

pub returns : goal.returns
returns g c = ends_for g.L.Parent.appended g.L.Parent.ended g.L.Parent.refuses
    (pair_serves 0x63 (value_type c.args.key) (value_type c.args.value)) c.end_with.ensures.ended

pub end_with-requires-clause-whole : goal.end_with-requires-clause-whole
end_with-requires-clause-whole g c =
    whole_for g.L.Parent.is_whole g.L.Parent.appended c.args.self.parent.now
    (pair_serves 0x63 (value_type c.args.key) (value_type c.args.value)) (c.args.self.whole (MapOf c.args.key c.args.value))
