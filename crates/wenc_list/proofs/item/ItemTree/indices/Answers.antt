use Rattle.std.proofs.Common.{rules}
use Rattle.wenc_list.proofs.item.ItemTree.indices.Goals as goal

pub returns-in-Start : goal.returns-in-Start
returns-in-Start g c = search rules
