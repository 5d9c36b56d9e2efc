use Rattle.wenc_builder.specs.laws.Reading.{same_list}
use Rattle.wasm_encoder.proofs.laws.one_list.Goals as goal

pub returns : goal.returns
returns c = same_list
