use Rattle.std.proofs.Common.{◌≡◌, ap}
use Rattle.wenc_base.specs.Prelude.{Rec, read_sub_type, sub_view}
use Rattle.wenc_view.specs.Prelude.{list_view, sub_seen}
use Rattle.wenc_decode.specs.Prelude.{copies_are}
use Rattle.wenc_decode.proofs.trees.core_types.GroupTreeTreeOfGroupView.tree_of.Goals as goal

pub returns-in_ok-types-in-Rec : goal.returns-in_ok-types-in-Rec
returns-in_ok-types-in-Rec g c =
    rw c.in-Rec.is (ap Rec (copies_are (λ t v. sub_view t ≡ sub_seen v) sub_seen sub_view (λ t v h. h)
    c.in_ok-types-in-Rec.types.items (list_view read_sub_type c.in-Rec.types) c.in_ok-types-in-Rec.ensures))
