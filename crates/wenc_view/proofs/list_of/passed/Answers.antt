use Rattle.std.proofs.Common.{◌≡◌, ◌++◌, ◌∷◌, [], Ok, arith, rules}
use Rattle.wenc_base.specs.Prelude.{Bad, times}
use Rattle.wenc_view.specs.Prelude.{at_start, is_done, members_are, stops, times_go_on}
use Rattle.wenc_view.proofs.list_of.passed.Goals as goal

pub loop-init : goal.loop-init
loop-init g c = ([], at_start g.T.View.reading.read c.args.count c.args.bytes.now, omega arith)

pub returns-in-Err-clause-found : goal.returns-in-Err-clause-found
returns-in-Err-clause-found g c =
    let read = g.T.View.reading.read in
    stops Bad read c.loop.invariant.0 c.args.count c.loop.counter c.loop.rest.now
    (times read c.args.count c.args.bytes.now) c.loop-test.true c.in-Err.ensures.found c.loop.invariant.1

pub loop-preserved : goal.loop-preserved
loop-preserved g c =
    let read = g.T.View.reading.read in
    let v = g.T.View.view c.in-Ok.field-0-0 in (
      c.loop.invariant.0 ++ v ∷ [],
      times_go_on read c.loop.invariant.0 c.args.count c.loop.counter c.loop.rest.now v c.in-Ok.after.now
          (times read c.args.count c.args.bytes.now) c.loop-test.true c.in-Ok.ensures.found c.loop.invariant.1,
      search rules,
    )

pub returns-clause-found : goal.returns-clause-found
returns-clause-found g c =
    let read = g.T.View.reading.read in
    let done : times read c.args.count c.args.bytes.now ≡ Ok (c.loop.invariant.0, c.loop.rest.now) = is_done read c.loop.invariant.0 c.args.count c.loop.counter
    c.loop.rest.now (times read c.args.count c.args.bytes.now) c.loop-test.false c.loop.invariant.1 in
    rw (members_are read c.args.count c.args.bytes.now c.loop.invariant.0 c.loop.rest.now done) done
