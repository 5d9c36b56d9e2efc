use Rattle.wenc_base.specs.Composites.{Struct}
use Rattle.wenc_base.specs.laws.Parents.{extends_for, whole_for}
use Rattle.wenc_base.proofs.Composites.{structure_serves}
use Rattle.wenc_base.proofs.Ended.{final_ends}
use Rattle.wenc_base.proofs.types.encoder.CoreTypeEncoder.slice_struct.Goals as goal

pub end_with-requires-clause-whole : goal.end_with-requires-clause-whole
end_with-requires-clause-whole g c =
    whole_for g.L.Parent.is_whole g.L.Parent.appended c.args.self.parent.now (structure_serves c.args.fields.now)
    (final_ends g.L.Parent.is_whole g.L.Parent.appended c.args.self.parent.now c.args.self.guard c.args.self.whole (Struct c.args.fields.now))

pub returns : goal.returns
returns g c =
    let old = c.args.self.parent.now in
    extends_for old _ c.end_with.result (λ bytes. g.L.Parent.ended (g.L.Parent.appended old bytes)) (g.L.Parent.refuses old)
    (structure_serves c.args.fields.now) c.end_with.ensures.ended
