use Rattle.std.proofs.Common.{rules}
use Rattle.wenc_parts.proofs.component.Component.new.Goals as goal

pub returns-clause-ok : goal.returns-clause-ok
returns-clause-ok g c = search rules
