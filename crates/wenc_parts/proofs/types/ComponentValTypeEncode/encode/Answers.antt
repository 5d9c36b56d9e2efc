use Rattle.std.proofs.Common.{rules}
use Rattle.wenc_parts.proofs.types.ComponentValTypeEncode.encode.Goals as goal

pub returns-in-Type-clause-appended : goal.returns-in-Type-clause-appended
returns-in-Type-clause-appended g c = search rules
