use Rattle.wasm_encoder.proofs.Itself.{added_alone}
use Rattle.wasm_encoder.proofs.laws.of_builders.an_item_becomes_its_command.Goals as goal

pub returns : goal.returns
returns c = λ es x. added_alone es x
