use Rattle.std.proofs.Common.{arith}
use Rattle.std.proofs.lemmas.Grind.{common_steps}
use Rattle.wenc_base.proofs.holder.kept.fill.Goals as goal

pub returns : goal.returns
returns g c = grind (arith, common_steps)
