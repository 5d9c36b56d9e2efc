use Rattle.wenc_base.specs.Prelude.{behind_bytes, list}
use Rattle.wenc_base.proofs.Grown.{ended_listed}
use Rattle.wenc_base.proofs.parent.Parent.end_with_list.Goals as goal

pub returns-in-Ok : goal.returns-in-Ok
returns-in-Ok g c =
    ended_listed g.Self.Parent.appended g.Self.Parent.ended g.Self.Parent.refuses g.I.Iterator.next_gives c.args.values c.args.self.now c.append_list.new.self _
    (λ vs. behind_bytes c.args.lead.now (list g.T.Encode.piece vs)) c.in-Ok.ensures c.end_member.ensures
