use Rattle.std.proofs.Common.{rules}
use Rattle.wenc_parts.proofs.component.Component.finish.Goals as goal

pub returns : goal.returns
returns g c = search rules
