use Rattle.wasm_encoder.proofs.Entered.{listed_entered}
use Rattle.wasm_encoder.proofs.laws.of_builders.listed_types_are_entries.Goals as goal

pub returns : goal.returns
returns g c = listed_entered g.I.Iterator.next_gives
