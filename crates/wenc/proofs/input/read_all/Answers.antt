use Rattle.std.proofs.Common.{rules}
use Rattle.wenc.proofs.input.read_all.Goals as goal

pub returns-then-count-eq0 : goal.returns-then-count-eq0
returns-then-count-eq0 g c = search rules
