use Rattle.std.proofs.Common.{rules}
use Rattle.wenc_list.proofs.debug_names.part_of.Goals as goal

pub returns : goal.returns
returns c = search rules
