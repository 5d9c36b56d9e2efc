use Rattle.std.proofs.Common.{[], refl}
use Rattle.wenc.proofs.Sent.{nothing_sent, piece_more, piece_front}
use Rattle.wenc.proofs.output.write_hex.Goals as goal

pub loop-rest-init : goal.loop-rest-init
loop-rest-init g c = ([], nothing_sent _, refl)

pub returns-in_err-write_piece-clause-front : goal.returns-in_err-write_piece-clause-front
returns-in_err-write_piece-clause-front g c =
    let h = c.loop-rest.invariant in
    piece_front _ _ _ _ h.0 c.loop-rest.rest.now c.split_at.result.0.now c.split_at.result.1.now h.2 c.split_at.ensures.by_index.0 h.1
    c.write_piece.ensures.front

pub loop-rest-preserved : goal.loop-rest-preserved
loop-rest-preserved g c =
    let h = c.loop-rest.invariant in
    piece_more _ _ _ _ h.0 c.loop-rest.rest.now c.split_at.result.0.now c.split_at.result.1.now h.2 c.split_at.ensures.by_index.0 h.1
    c.in_ok-write_piece.ensures.ok
