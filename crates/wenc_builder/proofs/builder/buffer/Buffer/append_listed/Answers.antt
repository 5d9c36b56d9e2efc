use Rattle.wenc_base.specs.Prelude.{behind_bytes, list}
use Rattle.wenc_builder.proofs.Laid.{appended_list, list_laid}
use Rattle.wenc_builder.proofs.builder.buffer.Buffer.append_listed.Goals as goal

pub invariant_of-self : goal.invariant_of-self
invariant_of-self g c =
    let b = c.self.inside in
    list_laid b.holder b.closed_len b.kind b.earlier c.args.self.now c.self.invariant c.self.view_is c.requires.unfinished
    g.I.Iterator.next_gives c.args.values c.append_listed.new.self c.append_listed.result
    (λ vs. behind_bytes c.args.lead.now (list g.T.Encode.piece vs)) c.append_listed.ensures

pub returns : goal.returns
returns g c =
    let b = c.self.inside in
    appended_list b.holder b.closed_len b.kind b.earlier c.args.self.now c.self.invariant c.self.view_is c.requires.unfinished
    g.I.Iterator.next_gives c.args.values c.append_listed.new.self c.append_listed.result
    (λ vs. behind_bytes c.args.lead.now (list g.T.Encode.piece vs)) c.append_listed.ensures
