use Rattle.std.proofs.Common.{rules, sym}
use Rattle.wenc_builder.proofs.Named.{none_at, some_at}
use Rattle.wenc_builder.proofs.builder.debug_names.are_empty.Goals as goal

pub loop-one-preserved : goal.loop-one-preserved
loop-one-preserved g c = none_at (λ n. (n.0, n.1.now)) c.args.names.now c.loop-one.one-index c.one-item.result c.loop-one.invariant
    c.loop-one-test.true c.one-item.is (search rules)

pub returns-then-not-is_empty : goal.returns-then-not-is_empty
returns-then-not-is_empty g c = sym (some_at (λ n. (n.0, n.1.now)) c.args.names.now c.loop-one.one-index c.one-item.result
    c.loop-one-test.true c.one-item.is (search rules))
