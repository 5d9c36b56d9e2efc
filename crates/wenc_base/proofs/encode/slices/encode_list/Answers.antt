use Rattle.std.proofs.Common.{rules, []}
use Rattle.wenc_base.specs.Prelude.{IsWarranted, drawn_in_order}
use Rattle.wenc_base.proofs.Members.{still_warranted}
use Rattle.wenc_base.proofs.Runs.{ok_run, memory_run, no_run}
use Rattle.wenc_base.proofs.encode.slices.encode_list.Goals as goal

pub returns-in-Ok-clause-ok : goal.returns-in-Ok-clause-ok
returns-in-Ok-clause-ok g c =
    let came = rw c.in_default.ensures.ok at c.in-Ok.ensures.ok in
    ok_run g.I.Iterator.next_gives g.T.Encode.piece c.args.values c.args.sink.now.items c.encode_all.new.sink.items 0 c.in-Ok.count
    c.put_number_over.result c.put_number_over.new.sink.items c.len-start.result
    came (search rules) c.put_number_over.ensures.ok

pub returns-in-Ok-clause-warranted : goal.returns-in-Ok-clause-warranted
returns-in-Ok-clause-warranted g c =
    let came = rw c.in_default.ensures.ok at c.in-Ok.ensures.ok in
    memory_run g.I.Iterator.next_gives g.T.Encode.piece c.args.values c.args.sink.now.items c.encode_all.new.sink.items 0 c.in-Ok.count
    c.put_number_over.result came c.put_number_over.ensures.warranted

pub returns-in-Err-clause-warranted : goal.returns-in-Err-clause-warranted
returns-in-Err-clause-warranted g c =
    no_run g.I.Iterator.next_gives c.args.values (λ vs. IsWarranted (drawn_in_order g.T.Encode.piece vs).Cause c.in-Err.fault)
    (still_warranted (λ f. ⊥) (drawn_in_order g.T.Encode.piece []).Cause (λ f g. absurd g) c.in-Err.fault c.in-Err.ensures.warranted)
