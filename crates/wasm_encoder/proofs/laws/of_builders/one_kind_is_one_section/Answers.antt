use Rattle.wasm_encoder.proofs.OneKind.{one_section, none_raw, as_many}
use Rattle.wasm_encoder.proofs.laws.of_builders.one_kind_is_one_section.Goals as goal

pub returns-clause-one : goal.returns-clause-one
returns-clause-one c = one_section

pub returns-clause-none_raw : goal.returns-clause-none_raw
returns-clause-none_raw c = none_raw

pub returns-clause-indices : goal.returns-clause-indices
returns-clause-indices c = as_many
