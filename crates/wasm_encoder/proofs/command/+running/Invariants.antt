use Rattle.std.proofs.Common.{drop}
use Rattle.wasm_encoder.specs.inside.Steps.{commands_view}
use Rattle.wasm_encoder.proofs.Nested.{InnerSo}
use Rattle.wasm_encoder.proofs.command.+running.Given as goal

abbrev pub invariant-run_all-loop-command : goal.invariant-run_all-loop-command
invariant-run_all-loop-command g l = InnerSo (commands_view l.commands.items) (commands_view (drop l.command-index l.commands.items)) l.builder
