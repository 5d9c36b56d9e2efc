use Rattle.std.proofs.Common.{◌≡◌, length}
use Rattle.wenc_base.specs.inside.Written.{Written}
use Rattle.wenc_base.proofs.encode.slices.encode_all.Given as goal

abbrev pub invariant-loop-value : goal.invariant-loop-value
invariant-loop-value g l = record {
  callable : (goal.iterator-loop-value g).can_next l.value-iterator;
  finite : (goal.iterator-loop-value g).is_finite l.value-iterator;
  written : Written g.T.Encode.piece l.initial.sink.items l.yielded l.sink.items;
  counted : length l.yielded ≡ l.count;
}
