use Rattle.std.proofs.Common.{rules, ◌≡◌, take, drop, length, arith, ◌∙◌}
use Rattle.std.proofs.Math.Seq.{take-length}
use Rattle.std.proofs.lemmas.List.{take-append-le}
use Rattle.wenc_base.specs.Holder.{listed}
use Rattle.wenc_base.proofs.Added.{came_after, came_behind}
use Rattle.wenc_base.proofs.Grown.{on_ok, on_err, in_both, kept_written}
use Rattle.wenc_base.proofs.holder.Holder.append_between.Goals as goal

pub returns-clause-appended : goal.returns-clause-appended
returns-clause-appended g c =
    let piece = listed (g.E.Encode.piece c.args.lead.now) g.T.Encode.piece (g.F.Encode.piece c.args.tail.now) in
    let steps = g.I.Iterator.next_gives in
    let written = c.encode_listed-written.result in
    let kept = c.self.inside.kept in
    let before = c.self.inside.bytes.items in
    let after = c.encode_listed-written.new.sink.items in
    let start : c.len-start.result ≡ length before = search rules in
    let front : take kept after ≡ take kept before = in_both written
    (on_ok written (came_after steps c.args.values piece kept before after c.self.invariant.0) c.encode_listed-written.ensures.ok)
    (on_err written (λ more. rw more.1 (take-append-le kept before more.0 c.self.invariant.0)) c.encode_listed-written.ensures.err) in
    let cut : take c.len-start.result after ≡ take c.len-start.result before = in_both written
    (on_ok written (came_after steps c.args.values piece c.len-start.result before after (omega (arith, start))) c.encode_listed-written.ensures.ok)
    (on_err written (λ more. rw more.1 (take-append-le c.len-start.result before more.0 (omega (arith, start)))) c.encode_listed-written.ensures.err) in
    let same : take c.len-start.result after ≡ before = cut ∙ rw start (take-length before) in
    kept_written steps c.args.values piece c.args.self.now _ (drop kept after) written c.keep_written.result
    (on_ok written (λ ok. rw (← c.self.view_is) (came_behind steps c.args.values piece kept before after c.self.invariant.0 ok))
    c.encode_listed-written.ensures.ok)
    c.encode_listed-written.ensures.warranted c.keep_written.ensures.failed
    (search (front, rules)) (search rules)
    (on_err c.keep_written.result (λ e. let items : c.keep_written.new.bytes.items ≡ before = e ∙ same in search (items, rules))
    c.keep_written.ensures.err) (search rules)
