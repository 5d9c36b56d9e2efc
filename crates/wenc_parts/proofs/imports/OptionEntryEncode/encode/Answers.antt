use Rattle.std.proofs.Common.{rules}
use Rattle.wenc_parts.proofs.imports.OptionEntryEncode.encode.Goals as goal

pub returns-in-Some-clause-appended : goal.returns-in-Some-clause-appended
returns-in-Some-clause-appended g c = search rules
