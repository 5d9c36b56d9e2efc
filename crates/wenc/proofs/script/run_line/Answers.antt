use Rattle.wenc.proofs.Commands.{line_ran}
use Rattle.wenc.proofs.script.run_line.Goals as goal

pub returns-in_ok-push-in-Some : goal.returns-in_ok-push-in-Some
returns-in_ok-push-in-Some g c = line_ran c.args.line.now _ _ _ _ _ _ c.if-is_empty.ensures
    (rw c.in-Some.is at c.in_ok-command.ensures) c.run-answer.ensures.ran c.in_ok-push-in-Some.ensures.items
