use Rattle.std.proofs.Common.{rules}
use Rattle.proved_tests.proofs.Functions.{function_written}
use Rattle.proved_tests.proofs.encoders.function_written.Goals as goal

pub returns : goal.returns
returns g c = function_written c.openings_are_members.ensures.type_ended_in_section g.P.Iterator.next_gives c.args.params c.args.section.now
    _ _ _ _ _ c.args.answer _ _ c.in_ok-function.ensures.borrowed.begun c.in_ok-function.ensures.stage c.in_ok-params.ensures.appended.ok
    c.result.ensures.ended.ok c.result.ensures.ended.fits (search rules)
