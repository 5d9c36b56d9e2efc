use Rattle.std.proofs.Common.{◌≡◌, replicate}
use Rattle.wenc_builder.specs.Builder.{no_names}
use Rattle.wenc_builder.proofs.builder.spaces.Spaces.new.Given as goal

abbrev pub invariant-loop : goal.invariant-loop
invariant-loop g l = l.spaces.items ≡ replicate l.counter no_names
