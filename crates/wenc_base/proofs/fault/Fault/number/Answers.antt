use Rattle.std.proofs.Common.{rules}
use Rattle.wenc_base.proofs.fault.Fault.number.Goals as goal

pub returns-in-TooMany : goal.returns-in-TooMany
returns-in-TooMany c = search rules

pub returns-in-TooLarge : goal.returns-in-TooLarge
returns-in-TooLarge c = search rules
