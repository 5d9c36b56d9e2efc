use Rattle.std.proofs.Common.{rules}
use Rattle.wasm_encoder.proofs.of_producers.producers_command.Goals as goal

pub returns-clause-fields : goal.returns-clause-fields
returns-clause-fields g c = search rules

pub returns-clause-bytes : goal.returns-clause-bytes
returns-clause-bytes g c = search rules
