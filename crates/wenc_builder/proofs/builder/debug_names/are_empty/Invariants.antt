use Rattle.std.proofs.Common.{◌≡◌, take, map, true}
use Rattle.wenc_builder.specs.DebugNames.{none_named}
use Rattle.wenc_builder.proofs.builder.debug_names.are_empty.Given as goal

abbrev pub invariant-loop-one : goal.invariant-loop-one
invariant-loop-one g l = none_named (map (λ n. (n.0, n.1.now)) (take l.one-index l.names)) ≡ true
