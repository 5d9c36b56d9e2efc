use Rattle.std.proofs.Common.{arith}
use Rattle.wenc.proofs.ListArgs.{told}
use Rattle.wenc.proofs.program.is_list.Goals as goal

pub returns-in-len1 : goal.returns-in-len1
returns-in-len1 c = told c.args.args.now c.word-item.result c.as_str.result.now c.eq.result (omega arith) c.word-item.is c.as_str.ensures.value c.eq.ensures
