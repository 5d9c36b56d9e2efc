use Rattle.std.proofs.Common.{◌≡◌, ◌+◌, map, take, get_or}
use Rattle.wenc_sections.specs.Prelude.{space_number}
use Rattle.wenc_builder.specs.Prelude.{next_index}
use Rattle.wenc_sections.specs.declared.space.Space.{Space}
use Rattle.wenc_list.specs.Prelude.{item_view}
use Rattle.wenc_list.proofs.counts.count.Given as goal

abbrev pub invariant-loop-item : goal.invariant-loop-item
invariant-loop-item g l = (k : Space) → get_or l.counts (space_number k) 0 ≡ get_or l.initial.counts (space_number k) 0
    + next_index (map item_view (take l.item-index l.items)) k
