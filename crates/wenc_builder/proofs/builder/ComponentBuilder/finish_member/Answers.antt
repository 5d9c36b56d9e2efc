use Rattle.wenc_builder.specs.inside.Spaces.{spaced}
use Rattle.wenc_builder.proofs.Standing.{ended_stands}
use Rattle.wenc_builder.proofs.Undone.{ended_spaces}
use Rattle.wenc_builder.proofs.Viewed.{ended_view}
use Rattle.wenc_builder.proofs.builder.ComponentBuilder.finish_member.Goals as goal

pub invariant_of-self : goal.invariant_of-self
invariant_of-self g c =
    rw (c.finish_member.ensures, ended_spaces c.self.inside.spaces c.self.inside.undo) (
      ended_stands c.self.inside.buffer (spaced c.self.inside.spaces c.self.inside.undo) c.self.invariant.0
          (rw (← c.self.view_is) at c.requires.whole),
      tt,
    )

pub returns : goal.returns
returns g c = ended_view c.self.inside.buffer c.finish_member.new.self c.self.inside.spaces c.self.inside.undo c.args.self.now
    c.self.invariant.0.agree c.self.view_is c.finish_member.ensures
