use Rattle.std.proofs.Common.{false, ◌++◌}
use Rattle.wenc_base.specs.Number.{unsigned_text}
use Rattle.wenc_base.proofs.Groups.{Writing}
use Rattle.wenc_base.proofs.short.Short.unsigned.Given as goal

abbrev pub invariant-loop-rest : goal.invariant-loop-rest
invariant-loop-rest l = Writing 128 false (l.initial.self ++ unsigned_text l.n) l.self l.rest

abbrev pub decreases-loop-rest : goal.decreases-loop-rest
decreases-loop-rest l = l.rest
