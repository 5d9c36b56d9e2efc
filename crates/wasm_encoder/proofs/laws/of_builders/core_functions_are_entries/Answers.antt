use Rattle.wasm_encoder.proofs.Entered.{core_functions_entered}
use Rattle.wasm_encoder.proofs.laws.of_builders.core_functions_are_entries.Goals as goal

pub returns : goal.returns
returns g c = core_functions_entered g.P.Iterator.next_gives g.R.Iterator.next_gives
