use Rattle.std.proofs.Common.{arith}
use Rattle.wenc.proofs.Sent.{sent_more}
use Rattle.wenc.proofs.output.write_text.Goals as goal

pub loop-rest-preserved : goal.loop-rest-preserved
loop-rest-preserved g c =
    let h = c.loop-rest.invariant in
    sent_more _ _ _ _ h.0 c.loop-rest.rest.now c.in-Ok.count (omega (arith, c.in-Ok.ensures.bound)) h.1 c.in-Ok.ensures.bytes h.2
