use Rattle.std.proofs.Common.{rules, arith, [], ◌∷◌, length-append, refl, ◌∙◌}
use Rattle.std.proofs.iter.SoFar.{turn_by, exit_by}
use Rattle.wenc_base.proofs.Members.{written_next}
use Rattle.wenc_base.proofs.Runs.{too_many_run, refused_run}
use Rattle.wenc_base.proofs.encode.slices.encode_all.Goals as goal

pub returns-then-count-clause-warranted : goal.returns-then-count-clause-warranted
returns-then-count-clause-warranted g c =
    let turn = turn_by g.I.Iterator.next_gives (c.loop-value.yielded, c.loop-value.yielded_by) _ c.next.new.self c.in-Some.ensures.steps refl in
    too_many_run g.I.Iterator.next_gives g.T.Encode.piece c.args.values turn.0 c.loop-value.yielded c.in-Some.value c.loop-value.count
    (turn.1 ∙ c.into_iter-value-iterator.ensures.into_iter_gives) turn.2.0 c.loop-value.invariant.counted c.if-count.true
    c.loop-value.invariant.written.no_cause (λ fault h. c.in_default.ensures.appended.encodable fault h)

pub returns-in-Err-clause-warranted : goal.returns-in-Err-clause-warranted
returns-in-Err-clause-warranted g c =
    let turn = turn_by g.I.Iterator.next_gives (c.loop-value.yielded, c.loop-value.yielded_by) _ c.next.new.self c.in-Some.ensures.steps refl in
    refused_run g.I.Iterator.next_gives g.T.Encode.piece c.args.values turn.0 c.loop-value.yielded c.in-Some.value c.in-Err.fault
    (turn.1 ∙ c.into_iter-value-iterator.ensures.into_iter_gives) turn.2.0 c.loop-value.invariant.written.no_cause c.in-Err.ensures.appended.warranted

pub loop-value-preserved : goal.loop-value-preserved
loop-value-preserved g c =
    let goes = c.in-Some.ensures.goes.on c.loop-value.invariant.finite in
    record {
      callable = goes.0;
      finite = goes.1;
      written = written_next g.T.Encode.piece _ _ c.in-Some.value _ _ c.loop-value.invariant.written
          (search rules) c.in_default.ensures.fits (λ fault h. c.in_default.ensures.appended.encodable fault h);
      counted = omega (arith, length-append c.loop-value.yielded (c.in-Some.value ∷ []), c.loop-value.invariant.counted);
    }

pub returns-clause-ok : goal.returns-clause-ok
returns-clause-ok g c =
    let exit = exit_by g.I.Iterator.next_gives (c.loop-value.yielded, c.loop-value.yielded_by) c.next.new.self c.in-None.ensures.steps in (
      exit.0,
      exit.1 ∙ c.into_iter-value-iterator.ensures.into_iter_gives,
      exit.2,
      rw exit.3.0 (c.loop-value.invariant.counted, search rules, c.loop-value.invariant.written),
    )
