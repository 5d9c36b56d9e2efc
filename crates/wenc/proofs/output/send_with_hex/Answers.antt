use Rattle.std.proofs.Common.{[], ◌∷◌, refl, append_assoc}
use Rattle.wenc.proofs.Sent.{appends_both, front_behind}
use Rattle.wenc.proofs.output.send_with_hex.Goals as goal

pub returns-in_err-write_hex-clause-front : goal.returns-in_err-write_hex-clause-front
returns-in_err-write_hex-clause-front g c = front_behind _ _ _ _ _ (10 ∷ []) _ c.in_ok-write_text.ensures.ok c.write_hex.ensures.front refl

pub returns-clause-front : goal.returns-clause-front
returns-clause-front g c =
    let before = appends_both _ _ _ _ _ c.in_ok-write_text.ensures.ok c.in_ok-write_hex.ensures.ok in
    front_behind _ _ _ _ _ [] _ before c.send.ensures.front (rw append_assoc refl)
