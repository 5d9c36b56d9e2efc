use Rattle.std.proofs.Common.{rules, map, None, subst}
use Rattle.std.specs.Iterator.Runs.{WholeRun}
use Rattle.wasm_encoder.specs.Prelude.{IsEntered}
use Rattle.wenc_builder.specs.Prelude.{State, type_entry}
use Rattle.wenc_types.specs.Prelude.{DefinedType, Record, borrowed_labelled_type}
use Rattle.proved_tests.proofs.built.record_built.Goals as goal

pub returns-in-Ok-record-clause-held : goal.returns-in-Ok-record-clause-held
returns-in-Ok-record-clause-held g c =
    let begun = c.in-Ok.ensures.begun in
    subst (λ (s : State). WholeRun g.F.Iterator.next_gives c.args.fields
    (λ run. IsEntered c.args.builder.now s (type_entry None (DefinedType (Record (map borrowed_labelled_type run.items))))))
    (search rules)
    (c.listed_types_are_entries.ensures.types None (λ fs. DefinedType (Record (map borrowed_labelled_type fs))) begun.begun begun.free c.in-Ok-record.ensures)
