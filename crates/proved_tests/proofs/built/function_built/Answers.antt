use Rattle.std.proofs.Common.{rules, false, None, subst}
use Rattle.std.specs.Iterator.Runs.{WholeRun}
use Rattle.wasm_encoder.specs.Prelude.{IsEntered, function_entry}
use Rattle.wenc_builder.specs.Builder.{State}
use Rattle.proved_tests.proofs.built.function_built.Goals as goal

pub returns-in_ok-result-in-Ok-clause-held : goal.returns-in_ok-result-in-Ok-clause-held
returns-in_ok-result-in-Ok-clause-held g c =
    let begun = c.in-Ok.ensures.begun in
    subst (λ (s : State). WholeRun g.P.Iterator.next_gives c.args.params
    (λ run. IsEntered c.args.builder.now s (function_entry None false run.items c.args.answer))) (search rules)
    (c.functions_are_entries.ensures.of_two None c.args.answer begun.begun begun.free c.in-Ok.ensures.stage
    c.in_ok-params-in-Ok.ensures.appended c.in_ok-result-in-Ok.ensures.ended)
