use Rattle.std.proofs.Common.{sym}
use Rattle.wenc.proofs.Lines.{not_text}
use Rattle.wenc.proofs.line.command.Goals as goal

pub returns-in-Err : goal.returns-in-Err
returns-in-Err c = sym (not_text c.args.line.now c.in-Err.ensures.cases.0)
