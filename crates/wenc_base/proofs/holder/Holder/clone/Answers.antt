use Rattle.std.proofs.Common.{rules}
use Rattle.wenc_base.proofs.holder.Holder.clone.Goals as goal

pub returns-clause-same : goal.returns-clause-same
returns-clause-same g c = search rules
