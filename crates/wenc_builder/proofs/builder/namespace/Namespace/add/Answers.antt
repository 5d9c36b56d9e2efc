use Rattle.std.proofs.Common.{rules, refl}
use Rattle.std.specs.Option.{option_copied}
use Rattle.wenc_builder.proofs.Mapped.{named_fit, named_free}
use Rattle.wenc_builder.proofs.builder.namespace.Namespace.add.Goals as goal

pub invariant_of-self-in-Ok : goal.invariant_of-self-in-Ok
invariant_of-self-in-Ok g c = named_fit c.self.inside.names c.append.new.self _ c.self.invariant c.in-Ok.ensures.ok

pub returns-in-Ok-clause-free : goal.returns-in-Ok-clause-free
returns-in-Ok-clause-free g c =
    named_free c.self.inside.names c.append.new.self c.args.self.now c.self.inside.count c.args.number
    (option_copied c.args.name) c.in-Some-name.name.now c.self.invariant c.in-Ok.ensures.ok c.self.view_is (rw c.in-Some-name.is refl)
    (search rules)
