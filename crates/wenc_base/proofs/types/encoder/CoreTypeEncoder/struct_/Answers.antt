use Rattle.wenc_base.specs.Composites.{Struct}
use Rattle.wenc_base.proofs.Ended.{final_ends}
use Rattle.wenc_base.proofs.types.encoder.CoreTypeEncoder.struct_.Goals as goal

pub end_with_list-requires-clause-whole : goal.end_with_list-requires-clause-whole
end_with_list-requires-clause-whole g c vs =
    final_ends g.L.Parent.is_whole g.L.Parent.appended c.args.self.parent.now c.args.self.guard c.args.self.whole (Struct vs)
