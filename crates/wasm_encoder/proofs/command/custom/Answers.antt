use Rattle.std.proofs.Common.{rules}
use Rattle.wasm_encoder.proofs.command.custom.Goals as goal

pub returns : goal.returns
returns g c = search rules
