use Rattle.std.proofs.Common.{rules}
use Rattle.wenc_base.proofs.Groups.{size_1}
use Rattle.wenc_base.proofs.number.encoding_size.Goals as goal

pub returns-then-n-clause-is : goal.returns-then-n-clause-is
returns-then-n-clause-is c = search (rules, size_1)
