use Rattle.std.proofs.Common.{rules, map, None, subst, ◌∙◌}
use Rattle.std.specs.Iterator.Runs.{WholeRun}
use Rattle.wasm_encoder.specs.Prelude.{IsEntered}
use Rattle.wenc_base.specs.Prelude.{Rec, sub_view}
use Rattle.wenc_builder.specs.Prelude.{State, core_type_entry}
use Rattle.wenc_types.specs.Prelude.{Grouped}
use Rattle.proved_tests.proofs.built.group_built.Goals as goal

pub returns-in-Ok-rec : goal.returns-in-Ok-rec
returns-in-Ok-rec g c =
    let begun = c.in-Ok.ensures.begun in
    subst (λ (s : State). WholeRun g.I.Iterator.next_gives c.args.types
    (λ run. IsEntered c.args.builder.now s (core_type_entry None (Grouped (Rec (map (λ s. sub_view s.now) run.items)))))) (search rules)
    (c.listed_types_are_entries.ensures.core_types None (λ ts. Grouped (Rec (map (λ s. sub_view s.now) ts)))
    (c.core.ensures.now ∙ begun.begun) begun.free c.in-Ok-rec.ensures)
