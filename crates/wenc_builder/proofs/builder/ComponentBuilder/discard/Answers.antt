use Rattle.wenc_builder.specs.inside.Spaces.{spaced}
use Rattle.wenc_builder.proofs.Standing.{given_up_stands}
use Rattle.wenc_builder.proofs.builder.ComponentBuilder.discard.Goals as goal

pub invariant_of-self : goal.invariant_of-self
invariant_of-self g c = rw (c.discard.ensures, c.go_back.ensures) (
  rw c.in-Some.is at (given_up_stands c.self.inside.buffer (spaced c.self.inside.spaces c.self.inside.undo) c.self.invariant.0),
  tt,
)
