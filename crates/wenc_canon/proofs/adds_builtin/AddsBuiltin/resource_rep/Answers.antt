use Rattle.std.proofs.Common.{rules}
use Rattle.wenc_canon.proofs.adds_builtin.AddsBuiltin.resource_rep.Goals as goal

pub returns : goal.returns
returns g c = search rules
