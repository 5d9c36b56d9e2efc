use Rattle.std.proofs.Common.{◌≡◌, ◌≤◌, length, ◌-◌, List}
use Rattle.wenc_base.specs.Readers.{times}
use Rattle.wenc_view.specs.laws.Repeats.{with_front}
use Rattle.wenc_view.proofs.list_of.passed.Given as goal

abbrev pub invariant-loop : goal.invariant-loop
invariant-loop g l = (vs : List g.T.View.Value) × (with_front vs (times g.T.View.reading.read (l.count - l.counter) l.rest) ≡ times g.T.View.reading.read l.count l.bytes) × (length l.rest ≤ length l.bytes)
