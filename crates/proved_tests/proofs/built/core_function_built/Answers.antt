use Rattle.std.proofs.Common.{rules, None, subst, ◌∙◌}
use Rattle.std.specs.Iterator.Runs.{WholeRun}
use Rattle.wasm_encoder.specs.Prelude.{IsEntered, core_function_entry}
use Rattle.wenc_builder.specs.Builder.{State}
use Rattle.proved_tests.proofs.built.core_function_built.Goals as goal

pub returns-in-Ok-function : goal.returns-in-Ok-function
returns-in-Ok-function g c =
    let begun = c.in-Ok.ensures.begun in
    subst (λ (s : State). WholeRun g.P.Iterator.next_gives c.args.params
    (λ run. WholeRun g.R.Iterator.next_gives c.args.results
    (λ last. IsEntered c.args.builder.now s (core_function_entry None run.items last.items)))) (search rules)
    (c.core_functions_are_entries.ensures.core_types None (c.core.ensures.now ∙ begun.begun) begun.free c.in-Ok-function.ensures)
