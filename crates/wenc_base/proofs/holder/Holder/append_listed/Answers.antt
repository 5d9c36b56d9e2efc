use Rattle.wenc_base.specs.Prelude.{behind_bytes, list, listed, member_appended, no_room_in_holder}
use Rattle.wenc_base.specs.Prelude.{nothing, verbatim}
use Rattle.wenc_base.specs.laws.Parents.{extends_as}
use Rattle.wenc_base.specs.laws.Serves.{listed_behind}
use Rattle.wenc_base.proofs.holder.Holder.append_listed.Goals as goal

pub returns : goal.returns
returns g c =
    extends_as g.I.Iterator.next_gives c.args.values c.args.self.now _ c.append_between.result (member_appended c.args.self.now)
    (no_room_in_holder c.args.self.now)
    (listed (verbatim c.args.lead.now) g.T.Encode.piece nothing) (λ vs. behind_bytes c.args.lead.now (list g.T.Encode.piece vs))
    (listed_behind c.args.lead.now g.T.Encode.piece)
    c.append_between.ensures.appended
