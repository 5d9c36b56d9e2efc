use Rattle.std.proofs.Common.{rules}
use Rattle.wenc_canon.proofs.adds_builtin.AddsBuiltin.waitable_set_wait.Goals as goal

pub add_row-requires-clause-row : goal.add_row-requires-clause-row
add_row-requires-clause-row g c = search rules

pub returns : goal.returns
returns g c = search rules
