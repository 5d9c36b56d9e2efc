use Rattle.std.proofs.Common.{◌≡◌, ◌+◌, ◌-◌, rules, arith}
use Rattle.wenc.proofs.Decimal.{room_in_front, digit_written, first_written, appended}
use Rattle.wenc.proofs.print.push_number.Goals as goal

pub loop-rest-preserved : goal.loop-rest-preserved
loop-rest-preserved g c =
    let now = c.loop-rest.invariant in
    let front = room_in_front c.loop-rest.rest c.loop-rest.start (omega arith) now.room in
    let before : c.loop-rest.start - 1 + 1 ≡ c.loop-rest.start = omega (arith, front.0) in
    record {
      digits = rw before (digit_written c.loop-rest.rest c.loop-rest.start c.loop-rest.line _ (omega arith) (omega arith) (omega arith) now.digits);
      room = rw before front.1;
      within = omega arith;
      all = search rules;
    }

pub returns : goal.returns
returns g c =
    let now = c.loop-rest.invariant in
    appended _ _ _ _ _ c.extend_from_slice.ensures.items
    (first_written c.loop-rest.rest c.loop-rest.start 11 c.loop-rest.line _ c.loop-rest-test.false (omega arith) now.all now.digits)
