use Rattle.wenc_builder.proofs.Standing.{list_stands}
use Rattle.wenc_base.specs.Prelude.{behind_bytes, list}
use Rattle.wenc_builder.proofs.Viewed.{appended_list}
use Rattle.wenc_builder.specs.Prelude.{spaced}
use Rattle.wenc_builder.proofs.builder.ComponentBuilderParent.append_list.Goals as goal

pub invariant_of-self : goal.invariant_of-self
invariant_of-self g c = (
  list_stands c.self.inside.buffer (spaced c.self.inside.spaces c.self.inside.undo) c.self.invariant.0 g.I.Iterator.next_gives c.args.values c.append_listed.new.self
      c.append_listed.result (λ vs. behind_bytes c.args.lead.now (list g.T.Encode.piece vs)) c.append_listed.ensures,
  c.self.invariant.1,
)

pub returns : goal.returns
returns g c =
    appended_list c.self.inside.buffer (spaced c.self.inside.spaces c.self.inside.undo) c.args.self.now c.self.invariant.0.agree c.self.view_is g.I.Iterator.next_gives
    c.args.values c.append_listed.new.self c.append_listed.result
    (λ vs. behind_bytes c.args.lead.now (list g.T.Encode.piece vs)) c.append_listed.ensures
