use Rattle.std.proofs.Common.{rules}
use Rattle.wenc_base.proofs.modules.Module.new.Goals as goal

pub returns-clause-ok : goal.returns-clause-ok
returns-clause-ok g c = search rules
