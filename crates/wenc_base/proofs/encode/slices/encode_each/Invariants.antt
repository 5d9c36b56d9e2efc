use Rattle.std.proofs.Common.{take}
use Rattle.wenc_base.specs.inside.Written.{Written}
use Rattle.wenc_base.proofs.encode.slices.encode_each.Given as goal

abbrev pub invariant-loop-value : goal.invariant-loop-value
invariant-loop-value g l = Written g.T.Encode.piece l.initial.sink.items (take l.value-index l.values) l.sink.items
