use Rattle.std.proofs.Common.{rules}
use Rattle.wenc_base.proofs.Groups.{size_1}
use Rattle.wenc_builder.proofs.builder.buffer.Buffer.new.Goals as goal

pub returns-clause-ok : goal.returns-clause-ok
returns-clause-ok g c = search (rules, size_1)
