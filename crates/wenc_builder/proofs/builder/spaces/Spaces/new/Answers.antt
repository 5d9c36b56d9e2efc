use Rattle.std.proofs.Common.{◌≡◌, refl, arith}
use Rattle.std.proofs.lemmas.List.{replicate-append-replicate}
use Rattle.wenc_builder.specs.Builder.{no_names}
use Rattle.wenc_builder.proofs.builder.spaces.Spaces.new.Goals as goal

pub loop-preserved : goal.loop-preserved
loop-preserved g c = rw (c.in_ok-push.ensures.items, c.loop.invariant, c.new.ensures) (replicate-append-replicate c.loop.counter 1 no_names)

pub invariant_of-result : goal.invariant_of-result
invariant_of-result g c = let all : c.loop.counter ≡ 13 = omega arith in rw (c.loop.invariant, all) refl

pub returns-clause-ok : goal.returns-clause-ok
returns-clause-ok g c = let all : c.loop.counter ≡ 13 = omega arith in rw (c.loop.invariant, all) refl
