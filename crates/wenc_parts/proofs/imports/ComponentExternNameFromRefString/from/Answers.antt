use Rattle.std.proofs.Common.{rules}
use Rattle.wenc_parts.proofs.imports.ComponentExternNameFromRefString.from.Goals as goal

pub returns : goal.returns
returns c = search rules
