use Rattle.std.proofs.Common.{◌≡◌, ◌+◌, ◌^◌, ◌<◌, ◌++◌, ◌∷◌, [], length, drop}
use Rattle.std.specs.Fmt.{decimal}
use Rattle.wenc.proofs.print.push_number.Given as goal

abbrev pub invariant-loop-rest : goal.invariant-loop-rest
invariant-loop-rest g l = record {
  digits : decimal l.rest ++ drop (l.start + 1) l.line ≡ decimal l.number ++ 10 ∷ [];
  room : l.rest < 10 ^ (l.start + 1);
  within : l.start < 10;
  all : length l.line ≡ 11;
}

abbrev pub decreases-loop-rest : goal.decreases-loop-rest
decreases-loop-rest g l = l.rest
