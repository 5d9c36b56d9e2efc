use Rattle.wenc_builder.specs.laws.Held.{holds_some}
use Rattle.wenc_builder.proofs.builder.ComponentBuilder.is_finished.Goals as goal

pub returns-clause-holds : goal.returns-clause-holds
returns-clause-holds g c = λ finished. holds_some c.args.self.now finished (rw c.self.view_is at c.self.invariant.0.holds)
