use Rattle.std.proofs.Common.{rules}
use Rattle.wenc_base.proofs.holder.Holder.add.Goals as goal

pub returns : goal.returns
returns g c = search rules
