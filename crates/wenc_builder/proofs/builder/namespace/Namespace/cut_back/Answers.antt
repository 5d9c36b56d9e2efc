use Rattle.wenc_builder.proofs.Mapped.{cut_fit}
use Rattle.wenc_builder.proofs.builder.namespace.Namespace.cut_back.Goals as goal

pub invariant_of-self : goal.invariant_of-self
invariant_of-self g c = cut_fit c.self.inside.names c.cut_back.new.self c.args.self.now c.self.inside.count c.args.named c.args.len
    c.cut_back.ensures c.self.invariant c.self.view_is c.requires.0 c.requires.1
