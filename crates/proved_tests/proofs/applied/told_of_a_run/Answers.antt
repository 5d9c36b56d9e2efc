use Rattle.std.proofs.Common.{◌∙◌, ap, map, subst, sym, List, ◌++◌, ◌∷◌}
use Rattle.wasm_encoder.specs.Prelude.{CommandTree, Ran, command_view}
use Rattle.wenc_builder.specs.Prelude.{Entry, Run, items as items_of, whole}
use Rattle.proved_tests.proofs.applied.told_of_a_run.Goals as goal

pub returns-in-Ok-clause-apart : goal.returns-in-Ok-clause-apart
returns-in-Ok-clause-apart g c es ran raw mode front behind id xs ys read =
    c.neighbours_differ.ensures (items_of es) front behind id xs ys
    (sym ((c.in-Ok.ensures.one_reading es ran raw mode (front ++ Run id xs ∷ Run id ys ∷ behind)).0 read))

pub returns-in-Ok-clause-ascending : goal.returns-in-Ok-clause-ascending
returns-in-Ok-clause-ascending g c es ran k =
    c.named_indices_ascend.ensures.ascending es k
    (c.named_indices_ascend.ensures.led_to (map command_view c.args.commands.now) c.in-Ok.built.answers.items es
    (c.named_indices_ascend.ensures.viewed c.args.commands.now) ran)

pub returns-in-Ok-clause-nested : goal.returns-in-Ok-clause-nested
returns-in-Ok-clause-nested g c inner same ok =
    let ran = c.in-Ok.ensures.ran in
    let there = subst (λ (cs : List CommandTree). Ran cs c.in-Ok.built.answers.items ran.0) (sym same) ran.1 in
    ran.2 ∙ ap (λ (es : List Entry). whole (items_of es)) (c.nested_runs.ensures.back inner c.in-Ok.built.answers.items ran.0 there ok).0
