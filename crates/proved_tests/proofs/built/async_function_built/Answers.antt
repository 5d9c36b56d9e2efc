use Rattle.std.proofs.Common.{rules, true, None, subst}
use Rattle.std.specs.Iterator.Runs.{WholeRun}
use Rattle.wasm_encoder.specs.Prelude.{IsEntered, function_entry}
use Rattle.wenc_builder.specs.Builder.{State}
use Rattle.proved_tests.proofs.built.async_function_built.Goals as goal

pub returns-in_ok-result-in-Ok : goal.returns-in_ok-result-in-Ok
returns-in_ok-result-in-Ok g c =
    let begun = c.in-Ok.ensures.begun in
    let marked = c.in_ok-async_-in-Ok.ensures in
    subst (λ (s : State). WholeRun g.P.Iterator.next_gives c.args.params
    (λ run. IsEntered c.args.builder.now s (function_entry None true run.items c.args.answer))) (search rules)
    (c.functions_are_entries.ensures.of_three None true c.args.answer begun.begun begun.free marked.appended marked.next
    c.in_ok-params-in-Ok.ensures.appended c.in_ok-result-in-Ok.ensures.ended)
