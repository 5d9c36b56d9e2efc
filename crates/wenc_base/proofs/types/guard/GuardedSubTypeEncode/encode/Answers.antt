use Rattle.std.proofs.Common.{rules}
use Rattle.wenc_base.proofs.types.guard.GuardedSubTypeEncode.encode.Goals as goal

pub returns-clause-appended : goal.returns-clause-appended
returns-clause-appended g c = search rules
