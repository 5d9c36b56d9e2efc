use Rattle.std.proofs.Common.{◌+◌, ◌*◌}
use Rattle.rebuild.proofs.+commands.Given as goal

abbrev pub decreases-command : goal.decreases-command
decreases-command l = 3 * l.depth + 1

abbrev pub decreases-nested : goal.decreases-nested
decreases-nested l = 3 * l.depth

abbrev pub decreases-commands : goal.decreases-commands
decreases-commands l = 3 * l.depth + 2
