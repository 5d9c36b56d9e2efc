use Rattle.std.proofs.Common.{drop, map}
use Rattle.wasm_encoder.specs.Command.{command_view}
use Rattle.wasm_encoder.proofs.Run.{RanSo}
use Rattle.wasm_encoder.proofs.command.build.Given as goal

abbrev pub invariant-loop-command : goal.invariant-loop-command
invariant-loop-command g l = RanSo (map command_view l.commands) (map command_view (drop l.command-index l.commands)) l.answers.items l.running
