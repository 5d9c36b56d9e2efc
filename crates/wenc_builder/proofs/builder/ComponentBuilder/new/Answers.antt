use Rattle.wenc_builder.specs.laws.Held.{some_of}
use Rattle.std.proofs.Common.{[]}
use Rattle.wenc_builder.specs.laws.Step.{holds_nothing}
use Rattle.wenc_builder.proofs.builder.ComponentBuilder.new.Goals as goal

pub returns-clause-held : goal.returns-clause-held
returns-clause-held g c = rw (c.in_ok-new.ensures.ok, c.in_ok-new-2.ensures.ok) holds_nothing

pub invariant_of-result : goal.invariant_of-result
invariant_of-result g c = rw (c.in_ok-new.ensures.ok, c.in_ok-new-2.ensures.ok) (record { agree = tt; holds = some_of _ [] holds_nothing tt }, tt)
