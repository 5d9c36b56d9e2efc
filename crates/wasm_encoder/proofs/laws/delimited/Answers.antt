use Rattle.wasm_encoder.proofs.AllLawful.{laws_of}
use Rattle.wasm_encoder.proofs.laws.delimited.Goals as goal

pub returns : goal.returns
returns c = λ f. (laws_of f).delimited
