use Rattle.std.proofs.Common.{rules}
use Rattle.wenc_parts.proofs.component.ComponentSection.append_to_component.Goals as goal

pub returns-clause-appended : goal.returns-clause-appended
returns-clause-appended g c = search rules
