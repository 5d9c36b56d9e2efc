use Rattle.std.proofs.Common.{arith}
use Rattle.std.proofs.lemmas.Grind.{common_steps}
use Rattle.wenc_base.proofs.holder.openings.keep_in_room.Goals as goal

pub returns-in-Err-clause-warranted : goal.returns-in-Err-clause-warranted
returns-in-Err-clause-warranted g c = grind (arith, common_steps)

pub returns-clause-fits : goal.returns-clause-fits
returns-clause-fits g c = grind (arith, common_steps)
