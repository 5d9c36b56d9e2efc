use Rattle.std.proofs.Common.{rules}
use Rattle.wenc_base.specs.Readers.{choose}
use Rattle.wenc_read.proofs.flag.flag_of.Goals as goal

pub returns-in-1-default : goal.returns-in-1-default
unfolding choose
returns-in-1-default c = search rules
