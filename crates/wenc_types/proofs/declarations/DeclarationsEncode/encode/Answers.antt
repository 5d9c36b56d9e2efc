use Rattle.std.proofs.Common.{rules}
use Rattle.wenc_types.proofs.declarations.DeclarationsEncode.encode.Goals as goal

pub returns-clause-appended : goal.returns-clause-appended
returns-clause-appended g c = search rules

pub returns-clause-declares : goal.returns-clause-declares
returns-clause-declares g c = search rules
