use Rattle.wenc.proofs.Lines.{of_text}
use Rattle.wenc.proofs.line.text_command.Goals as goal

pub returns : goal.returns
returns c = rw (of_text c.args.line.now c.utf8.line, ← c.of.ensures) c.command_of.ensures
