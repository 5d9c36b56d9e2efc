use Rattle.std.proofs.Common.{arith, length-append, false}
use Rattle.wenc_base.specs.Number.{unsigned_text}
use Rattle.wenc_base.proofs.Groups.{writing_more, writing_last, writing_room}
use Rattle.wenc_base.proofs.short.Short.unsigned.Goals as goal

pub push-requires : goal.push-requires
push-requires c = omega (arith, writing_room 128 false _ _ _ c.loop-rest.invariant, length-append c.args.self.now (unsigned_text c.args.n))

pub loop-rest-preserved : goal.loop-rest-preserved
loop-rest-preserved c = rw c.push.ensures (writing_more 128 false _ _ _ (omega arith) c.loop-rest.invariant (omega arith))

pub push-requires-2 : goal.push-requires-2
push-requires-2 c = omega (arith, writing_room 128 false _ _ _ c.loop-rest.invariant, length-append c.args.self.now (unsigned_text c.args.n))

pub returns : goal.returns
returns c = rw c.push-2.ensures (writing_last 128 false _ _ _ c.loop-rest.invariant (omega arith))
