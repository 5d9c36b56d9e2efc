use Rattle.std.proofs.Common.{rules, inl}
use Rattle.wenc_base.specs.Holder.{listed}
use Rattle.wenc_base.proofs.Added.{unfinished_listed, not_opened, opened_and_ended, opened_and_given_up}
use Rattle.wenc_base.proofs.holder.Holder.add_listed.Goals as goal

pub returns-then-not-is_finished-clause-added : goal.returns-then-not-is_finished-clause-added
returns-then-not-is_finished-clause-added g c =
    unfinished_listed g.I.Iterator.next_gives c.args.values
    (listed (g.E.Encode.piece c.args.lead.now) g.T.Encode.piece (g.F.Encode.piece c.args.tail.now)) c.args.self.now c.args.self.now
    (search rules) (search rules)

pub returns-in-Err-clause-added : goal.returns-in-Err-clause-added
returns-in-Err-clause-added g c =
    not_opened g.I.Iterator.next_gives c.args.values
    (listed (g.E.Encode.piece c.args.lead.now) g.T.Encode.piece (g.F.Encode.piece c.args.tail.now)) c.args.self.now _ c.in-Err.fault
    c.refusal_of_lead.result (g.E.Encode.piece c.args.lead.now)
    (search rules) (search rules) c.in-Err.ensures.opened.warranted c.refusal_of_lead.ensures.returned (λ f h. inl h)

pub returns-in-Ok-clause-added : goal.returns-in-Ok-clause-added
returns-in-Ok-clause-added g c =
    opened_and_ended g.I.Iterator.next_gives c.args.values
    (listed (g.E.Encode.piece c.args.lead.now) g.T.Encode.piece (g.F.Encode.piece c.args.tail.now)) c.args.self.now _
    c.append_between.new.self (search rules) c.in_default.ensures.opened.free
    (rw c.in_default.ensures.opened.ok at c.in-Ok.ensures.appended) (search rules)

pub returns-in-Err-append_between-clause-added : goal.returns-in-Err-append_between-clause-added
returns-in-Err-append_between-clause-added g c =
    opened_and_given_up g.I.Iterator.next_gives c.args.values
    (listed (g.E.Encode.piece c.args.lead.now) g.T.Encode.piece (g.F.Encode.piece c.args.tail.now)) c.args.self.now _
    c.append_between.new.self (search rules) c.in-Err-append_between.fault
    (rw c.in_default.ensures.opened.ok at c.in-Err-append_between.ensures.appended) (search rules)
