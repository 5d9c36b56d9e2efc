use Rattle.wenc_base.specs.Prelude.{option, u32, val_type}
use Rattle.wenc_base.specs.laws.Parents.{whole_for}
use Rattle.wenc_types.specs.Prelude.{ResourceType}
use Rattle.wenc_types.proofs.Serving.{pair_serves, ends_for}
use Rattle.wenc_types.proofs.encoders.ty.ComponentTypeEncoder.resource.Goals as goal

pub returns : goal.returns
returns g c = ends_for g.L.Parent.appended g.L.Parent.ended g.L.Parent.refuses
    (pair_serves 0x3f (val_type c.args.rep) (option u32 c.args.dtor)) c.end_with.ensures.ended

pub end_with-requires-clause-whole : goal.end_with-requires-clause-whole
end_with-requires-clause-whole g c =
    whole_for g.L.Parent.is_whole g.L.Parent.appended c.args.self.parent.now
    (pair_serves 0x3f (val_type c.args.rep) (option u32 c.args.dtor)) (c.args.self.whole (ResourceType c.args.rep c.args.dtor))
