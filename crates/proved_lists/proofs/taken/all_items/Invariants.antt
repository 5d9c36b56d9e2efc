use Rattle.std.proofs.Common.{List}
use Rattle.wenc_builder.specs.Item.{Item}
use Rattle.wenc_list.specs.Cursor.{HasTaken}
use Rattle.proved_lists.proofs.taken.all_items.Given as goal

abbrev pub decreases-loop-item : goal.decreases-loop-item
decreases-loop-item l = l.left.left

abbrev pub invariant-loop-item : goal.invariant-loop-item
invariant-loop-item l = (xs : List Item) × HasTaken l.items xs l.left
