use Rattle.std.proofs.Common.{rules, ◌++◌, ◌∷◌, [], None, subst}
use Rattle.wenc_builder.specs.Prelude.{Holds, State, type_entry}
use Rattle.wenc_types.specs.Prelude.{DefinedType, OptionOf}
use Rattle.proved_tests.proofs.built.option_built.Goals as goal

pub returns-in-Ok-option-clause-held : goal.returns-in-Ok-option-clause-held
returns-in-Ok-option-clause-held g c es h =
    let begun = c.in-Ok.ensures.begun in
    let written = c.in-Ok-option.ensures in
    subst (λ (s : State). Holds s (es ++ type_entry None (DefinedType (OptionOf c.args.ty)) ∷ [])) (search rules)
    (c.encoded_types_are_entries.ensures.written.types None (DefinedType (OptionOf c.args.ty)) begun.begun begun.free written es h)

pub returns-in-Ok-option-clause-indexed : goal.returns-in-Ok-option-clause-indexed
returns-in-Ok-option-clause-indexed g c es h = c.in-Ok.ensures.begun.indexed es h
