use Rattle.wenc_base.specs.Holder.{listed}
use Rattle.wenc_builder.proofs.Laid.{appended_list, list_laid}
use Rattle.wenc_builder.proofs.builder.buffer.Buffer.append_between.Goals as goal

pub invariant_of-self : goal.invariant_of-self
invariant_of-self g c =
    let b = c.self.inside in
    list_laid b.holder b.closed_len b.kind b.earlier c.args.self.now c.self.invariant c.self.view_is c.requires.unfinished
    g.I.Iterator.next_gives c.args.values c.append_between.new.self c.append_between.result
    (listed (g.E.Encode.piece c.args.lead.now) g.T.Encode.piece (g.F.Encode.piece c.args.tail.now)) c.append_between.ensures.appended

pub returns : goal.returns
returns g c =
    let b = c.self.inside in
    appended_list b.holder b.closed_len b.kind b.earlier c.args.self.now c.self.invariant c.self.view_is c.requires.unfinished
    g.I.Iterator.next_gives c.args.values c.append_between.new.self c.append_between.result
    (listed (g.E.Encode.piece c.args.lead.now) g.T.Encode.piece (g.F.Encode.piece c.args.tail.now)) c.append_between.ensures.appended
