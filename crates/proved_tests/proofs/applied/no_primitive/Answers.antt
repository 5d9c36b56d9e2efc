use Rattle.std.proofs.Common.{arith}
use Rattle.proved_tests.proofs.applied.no_primitive.Goals as goal

pub returns : goal.returns
returns c p r s same = c.indices_are_no_primitives.ensures 0x73 p r s (omega arith) same
