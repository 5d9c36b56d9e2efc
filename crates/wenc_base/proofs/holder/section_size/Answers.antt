use Rattle.std.proofs.Common.{rules}
use Rattle.wenc_base.proofs.holder.section_size.Goals as goal

pub returns-clause-ok : goal.returns-clause-ok
returns-clause-ok c = search rules
