use Rattle.std.proofs.Common.{[]}
use Rattle.wasm_encoder.proofs.NestedRuns.{inner_runs, runs_inner}
use Rattle.wasm_encoder.proofs.laws.of_builders.nested_runs.Goals as goal

pub returns-clause-there : goal.returns-clause-there
returns-clause-there c = inner_runs []

pub returns-clause-back : goal.returns-clause-back
returns-clause-back c = runs_inner []
