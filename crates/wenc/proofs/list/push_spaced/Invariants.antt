use Rattle.std.proofs.Common.{◌≡◌, ◌++◌, drop, string_bytes}
use Rattle.wenc.specs.Listed.{with_space}
use Rattle.wenc.proofs.list.push_spaced.Given as goal

abbrev pub invariant-loop-number : goal.invariant-loop-number
invariant-loop-number g l = string_bytes l.text ++ with_space (drop l.number-index l.numbers) ≡ string_bytes l.fn.text ++ with_space l.numbers
