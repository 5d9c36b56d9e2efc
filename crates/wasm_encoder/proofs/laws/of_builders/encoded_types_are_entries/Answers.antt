use Rattle.wenc_builder.specs.laws.ParentState.{begun_given_up, written_given_up}
use Rattle.wasm_encoder.proofs.Entered.{all_entered}
use Rattle.wasm_encoder.proofs.laws.of_builders.encoded_types_are_entries.Goals as goal

pub returns-clause-written : goal.returns-clause-written
returns-clause-written c = all_entered

pub returns-clause-begun_given_up : goal.returns-clause-begun_given_up
returns-clause-begun_given_up c = begun_given_up

pub returns-clause-written_given_up : goal.returns-clause-written_given_up
returns-clause-written_given_up c = written_given_up
