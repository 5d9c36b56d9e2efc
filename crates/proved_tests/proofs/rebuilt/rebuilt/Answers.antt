use Rattle.std.proofs.Common.{rules, ◌≡◌, List, [], ◌∷◌, ◌++◌, map, length, ap, arith, ◌∙◌}
use Rattle.std.specs.List.{flat_map}
use Rattle.std.specs.Vec.Iter.{into_iter_items}
use Rattle.wasm_encoder.specs.Prelude.{CommandTree, command_of, command_view}
use Rattle.wenc_builder.specs.Prelude.{members}
use Rattle.wenc_list.specs.Prelude.{item_view, section_view}
use Rattle.proved_tests.proofs.Anew.{one_more, accepted, all_given, next_given}
use Rattle.proved_tests.proofs.rebuilt.rebuilt.Goals as goal

pub loop-section-preserved : goal.loop-section-preserved
loop-section-preserved g c =
    let at = c.loop-section in
    let steps : into_iter_items at.section-iterator ≡ c.in-Some.section ∷ into_iter_items c.next.new.self = c.in-Some.ensures.steps.0 in
    let added : map command_view c.add_commands.new.commands.items ≡ map command_view at.commands.items
    ++ map command_of (map item_view c.in-Some.section.items.items) = search rules in (
      added ∙ ap (λ (ys : List CommandTree). ys ++ map command_of (map item_view c.in-Some.section.items.items)) at.invariant.0
          ∙ one_more at.yielded c.in-Some.section,
      next_given _ at.yielded _ (into_iter_items c.next.new.self) c.in-Some.section at.invariant.1 steps,
      let was = at.invariant.2 in
          let gone = c.in-Some.ensures.steps.1 in
          let short = ap length steps in
          omega arith,
    )

pub returns-in-Ok-build : goal.returns-in-Ok-build
returns-in-Ok-build g c =
    let at = c.loop-section in
    let all : at.yielded ≡ c.in-Ok.listing.sections.items = all_given _ at.yielded
    (into_iter_items at.section-iterator) _ at.invariant.1 at.invariant.2 c.in-None.ensures.steps.0
    ∙ c.into_iter-section-iterator.ensures.into_iter_gives.0 in
    let commands = (rw all at at.invariant.0) in
    let ran = c.in-Ok-build.ensures.ran in
    let run = (rw (c.deref.ensures.value, commands) at ran.1) in
    let ss = map section_view c.in-Ok.listing.sections.items in (
      ss,
      c.in-Ok.ensures.reading,
      (
        ran.0,
        run,
        ran.2,
        λ ok. accepted c.an_item_becomes_its_command.ensures []
            (flat_map members ss) c.in-Ok-build.built.answers.items ran.0 run ok,
      ),
    )
