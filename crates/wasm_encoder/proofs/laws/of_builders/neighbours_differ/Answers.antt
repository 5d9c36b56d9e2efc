use Rattle.wasm_encoder.proofs.Neighbours.{never_alike}
use Rattle.wasm_encoder.proofs.laws.of_builders.neighbours_differ.Goals as goal

pub returns : goal.returns
returns c = never_alike
