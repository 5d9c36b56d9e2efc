use Rattle.std.proofs.Common.{◌≡◌, ◌∷◌, map, length, ap, arith}
use Rattle.std.specs.Vec.Iter.{into_iter_items}
use Rattle.wasm_encoder.specs.Prelude.{command_of, command_view}
use Rattle.wenc_list.specs.Prelude.{item_view}
use Rattle.proved_tests.proofs.Anew.{pushed, all_given, next_given}
use Rattle.proved_tests.proofs.rebuilt.add_commands.Goals as goal

pub loop-item-preserved : goal.loop-item-preserved
loop-item-preserved g c =
    let at = c.loop-item in
    let steps : into_iter_items at.item-iterator ≡ c.in-Some.item ∷ into_iter_items c.next.new.self = c.in-Some.ensures.steps.0 in (
      rw c.in_ok-push.ensures.items (pushed command_view item_view command_of (map command_view c.args.commands.now.items) at.commands.items
          c.from.result at.yielded c.in-Some.item at.invariant.0 c.from.ensures),
      next_given c.args.items.items at.yielded _ (into_iter_items c.next.new.self) c.in-Some.item at.invariant.1 steps,
      let was = at.invariant.2 in
          let gone = c.in-Some.ensures.steps.1 in
          let short = ap length steps in
          omega arith,
    )

pub returns : goal.returns
returns g c =
    let at = c.loop-item in
    let all = all_given c.args.items.items at.yielded (into_iter_items at.item-iterator) _ at.invariant.1 at.invariant.2 c.in-None.ensures.steps.0 in
    rw all at at.invariant.0
