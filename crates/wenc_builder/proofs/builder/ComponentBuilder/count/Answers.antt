use Rattle.std.proofs.Common.{◌∙◌}
use Rattle.wenc_builder.proofs.Viewed.{count_is}
use Rattle.wenc_builder.proofs.builder.ComponentBuilder.count.Goals as goal

pub returns : goal.returns
returns g c = c.count.ensures ∙ count_is c.self.inside.buffer c.self.inside.spaces c.self.inside.undo c.args.self.now c.args.space
    c.self.invariant.0.agree c.self.view_is
