use Rattle.std.proofs.Common.{rules}
use Rattle.wenc.proofs.builtin.of_stream.Goals as goal

pub returns-in_ok-index-in-text-5 : goal.returns-in_ok-index-in-text-5
returns-in_ok-index-in-text-5 c = search rules
