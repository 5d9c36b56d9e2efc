use Rattle.std.proofs.Common.{arith}
use Rattle.std.proofs.lemmas.Grind.{common_steps}
use Rattle.wenc_base.proofs.holder.end_member.Goals as goal

pub returns-in-Ok-clause-fits : goal.returns-in-Ok-clause-fits
returns-in-Ok-clause-fits g c = grind (arith, common_steps)

pub returns-in-Ok-clause-free : goal.returns-in-Ok-clause-free
returns-in-Ok-clause-free g c = grind (arith, common_steps)

pub returns-in-Err-clause-warranted : goal.returns-in-Err-clause-warranted
returns-in-Err-clause-warranted g c = grind (arith, common_steps)
