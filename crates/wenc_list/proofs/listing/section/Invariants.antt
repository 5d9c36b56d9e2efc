use Rattle.std.proofs.Common.{map}
use Rattle.wenc_list.specs.Prelude.{HasTaken, item_view}
use Rattle.wenc_list.proofs.listing.section.Given as goal

abbrev pub decreases-loop-item : goal.decreases-loop-item
decreases-loop-item g l = l.left.left

abbrev pub invariant-loop-item : goal.invariant-loop-item
invariant-loop-item g l = HasTaken l.from (map item_view l.items.items) l.left
