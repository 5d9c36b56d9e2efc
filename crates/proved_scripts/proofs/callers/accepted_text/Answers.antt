use Rattle.std.proofs.Common.{Some, [], ap, refl}
use Rattle.std.proofs.lemmas.Option.{same_Some}
use Rattle.proved_scripts.proofs.callers.accepted_text.Goals as goal

pub returns-then-status-eq0 : goal.returns-then-status-eq0
returns-then-status-eq0 c =
    let done = (c.run-status.ensures.ends refl).zero c.if-status-eq0.true c.args.script.now [] refl (ap Some c.new-out.ensures.items) in
    rw (same_Some _ _ done.1) done.3
