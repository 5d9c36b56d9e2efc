use Rattle.std.proofs.Common.{◌++◌}
use Rattle.wenc_base.specs.Number.{groups, turned}
use Rattle.wenc_base.proofs.Groups.{Writing}
use Rattle.wenc_base.proofs.short.Short.signed_groups.Given as goal

abbrev pub invariant-loop-rest : goal.invariant-loop-rest
invariant-loop-rest l = Writing 64 l.is_negative (l.initial.self ++ turned l.is_negative (groups 64 9 l.magnitude)) l.self l.rest

abbrev pub decreases-loop-rest : goal.decreases-loop-rest
decreases-loop-rest l = l.rest
