use Rattle.std.proofs.Common.{rules}
use Rattle.wenc_base.specs.Readers.{choose}
use Rattle.wenc_list.proofs.debug_names.space_of.Goals as goal

pub returns-in-3-default : goal.returns-in-3-default
unfolding choose
returns-in-3-default c = search rules
