use Rattle.std.proofs.Common.{arith}
use Rattle.wenc.proofs.Numbers.{number_stops, number_ends}
use Rattle.wenc.proofs.number.number.Goals as goal

pub returns-in_err-checked_mul : goal.returns-in_err-checked_mul
returns-in_err-checked_mul c = grind (arith, number_stops)

pub returns-in_err-value : goal.returns-in_err-value
returns-in_err-value c = grind (arith, number_stops)

pub returns : goal.returns
returns c = grind (arith, number_ends)
