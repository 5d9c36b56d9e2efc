use Rattle.wenc_base.specs.Composites.{Array}
use Rattle.wenc_base.proofs.Ended.{final_ends}
use Rattle.wenc_base.proofs.types.encoder.CoreTypeEncoder.array.Goals as goal

pub end_with-requires-clause-whole : goal.end_with-requires-clause-whole
end_with-requires-clause-whole g c =
    final_ends g.L.Parent.is_whole g.L.Parent.appended c.args.self.parent.now c.args.self.guard c.args.self.whole
    (Array (record { element_type = c.args.ty.now; mutable = c.args.mutable }))
