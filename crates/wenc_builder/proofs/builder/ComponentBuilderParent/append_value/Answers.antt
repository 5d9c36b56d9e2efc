use Rattle.wenc_builder.proofs.Standing.{value_stands}
use Rattle.wenc_builder.proofs.Viewed.{appended_value}
use Rattle.wenc_builder.specs.inside.Spaces.{spaced}
use Rattle.wenc_builder.proofs.builder.ComponentBuilderParent.append_value.Goals as goal

pub returns-clause-appended : goal.returns-clause-appended
returns-clause-appended g c =
    appended_value c.self.inside.buffer (spaced c.self.inside.spaces c.self.inside.undo) c.args.self.now c.self.invariant.0.agree c.self.view_is c.append_encoded.new.self
    c.append_encoded.result
    (g.E.Encode.piece c.args.value.now) c.append_encoded.ensures.appended

pub invariant_of-self : goal.invariant_of-self
invariant_of-self g c = (
  value_stands c.self.inside.buffer (spaced c.self.inside.spaces c.self.inside.undo) c.self.invariant.0 c.append_encoded.new.self
      c.append_encoded.result (g.E.Encode.piece c.args.value.now) c.append_encoded.ensures.appended,
  c.self.invariant.1,
)
