use Rattle.std.proofs.Common.{◌≡◌, ◌++◌, List}
use Rattle.wenc_decode.specs.Copies.{AreCopies}
use Rattle.wenc_view.specs.Members.{list_view}
use Rattle.wenc_decode.proofs.trees.VecTreeOfListOf.tree_of.Given as goal

abbrev pub invariant-loop-value : goal.invariant-loop-value
invariant-loop-value g l = record {
  callable : (goal.iterator-loop-value g).can_next l.value-iterator;
  finite : (goal.iterator-loop-value g).is_finite l.value-iterator;
  so_far : (ms : List g.V.View.Value) × AreCopies g.T.TreeOf.is_copy g.V.View.view l.values.items ms ×
      (ms ++ list_view g.V.View.reading.read l.value-iterator ≡ list_view g.V.View.reading.read l.initial.value-iterator);
}
