use Rattle.std.proofs.Common.{[], refl}
use Rattle.wenc_view.specs.Members.{list_view}
use Rattle.wenc_decode.specs.laws.Copies.{one_copied, all_copied}
use Rattle.wenc_decode.proofs.trees.VecTreeOfListOf.tree_of.Goals as goal

pub loop-value-init : goal.loop-value-init
loop-value-init g c = record {
  callable = tt;
  finite = tt;
  so_far = ([], rw c.in_ok-values.ensures.items tt, refl);
}

pub loop-value-preserved : goal.loop-value-preserved
loop-value-preserved g c =
    let goes = c.in-Some.ensures.goes.on c.loop-value.invariant.finite in
    record {
      callable = goes.0;
      finite = goes.1;
      so_far = one_copied g.T.TreeOf.is_copy g.V.View.view c.loop-value.values.items c.push.new.self.items c.in_ok-tree.tree c.in-Some.value
          (list_view g.V.View.reading.read c.loop-value.value-iterator) (list_view g.V.View.reading.read c.next.new.self) _ c.in_ok-push.ensures.items c.in_ok-tree.ensures
          c.in-Some.ensures.steps.0 c.loop-value.invariant.so_far;
    }

pub returns : goal.returns
returns g c =
    all_copied g.T.TreeOf.is_copy g.V.View.view c.loop-value.values.items (list_view g.V.View.reading.read c.loop-value.value-iterator)
    (list_view g.V.View.reading.read c.args.view) c.in-None.ensures.steps.0
    (rw c.into_iter-value-iterator.ensures.into_iter_gives at c.loop-value.invariant.so_far)
