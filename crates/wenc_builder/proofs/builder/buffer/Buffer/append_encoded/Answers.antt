use Rattle.wenc_builder.proofs.Laid.{appended_value}
use Rattle.wenc_builder.proofs.builder.buffer.Buffer.append_encoded.Goals as goal

pub returns-clause-appended : goal.returns-clause-appended
returns-clause-appended g c =
    let b = c.self.inside in
    appended_value b.holder b.closed_len b.kind b.earlier c.args.self.now c.self.invariant c.self.view_is c.requires
    c.append_encoded.new.self c.append_encoded.result
    (g.E.Encode.piece c.args.value.now) c.append_encoded.ensures.appended
