use Rattle.std.proofs.Common.{rules}
use Rattle.wasm_encoder.proofs.of_item.CommandFromItemTree.from.Goals as goal

pub returns-in-Component : goal.returns-in-Component
returns-in-Component g c = search rules
