use Rattle.wasm_encoder.proofs.Entered.{functions_entered}
use Rattle.wasm_encoder.proofs.laws.of_builders.functions_are_entries.Goals as goal

pub returns : goal.returns
returns g c = functions_entered g.P.Iterator.next_gives
