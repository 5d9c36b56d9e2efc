use Rattle.std.proofs.Common.{take}
use Rattle.wenc_base.specs.inside.Written.{Written}
use Rattle.wenc_builder.specs.DebugNames.{space_names}
use Rattle.wenc_builder.proofs.builder.debug_names.encode_each.Given as goal

abbrev pub invariant-loop-one : goal.invariant-loop-one
invariant-loop-one g l = Written (λ n. space_names (n.0, n.1.now)) l.initial.sink.items (take l.one-index l.names) l.sink.items
