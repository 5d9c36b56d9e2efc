use Rattle.std.proofs.Common.{◌≡◌, ◌<◌, ◌^◌, drop}
use Rattle.wenc.specs.Fields.{value_behind, at_most_32_bits}
use Rattle.wenc.proofs.number.number.Given as goal

abbrev pub invariant-loop-byte : goal.invariant-loop-byte
invariant-loop-byte l = record {
  same : at_most_32_bits (value_behind 0 l.byte-items) ≡ at_most_32_bits (value_behind l.value (drop l.byte-index l.byte-items));
  small : l.value < 2 ^ 32;
}
