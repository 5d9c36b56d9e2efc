use Rattle.std.proofs.Common.{arith}
use Rattle.std.proofs.lemmas.Grind.{common_steps}
use Rattle.wenc_base.proofs.encode.sized.WithSizeEncode.encode.Goals as goal

pub overflow_sub-len : goal.overflow_sub-len
overflow_sub-len g c = grind (arith, common_steps)

pub returns-in_default-clause-appended : goal.returns-in_default-clause-appended
returns-in_default-clause-appended g c = grind (arith, common_steps)

pub put_number-requires : goal.put_number-requires
put_number-requires g c = grind (arith, common_steps)

pub returns-clause-appended : goal.returns-clause-appended
returns-clause-appended g c = grind (arith, common_steps)

pub returns-clause-fits : goal.returns-clause-fits
returns-clause-fits g c = grind (arith, common_steps)
