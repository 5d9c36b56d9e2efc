use Rattle.std.proofs.Common.{rules}
use Rattle.wenc_view.specs.inside.ExternNames.{option_seen}
use Rattle.wenc_view.proofs.Options.{late}
use Rattle.wenc_view.proofs.extern_names.+options_from.Goals as goal

pub returns-then-number-least-clause-found : goal.returns-then-number-least-clause-found
returns-then-number-least-clause-found t c =
    late c.args.name.now c.args.least c.args.count c.number_of-number.result (option_seen c.in-Ok.option) c.args.bytes.now c.in-Ok.rest.now
    (search rules) c.in-Ok.ensures.found c.number_of-number.ensures (search rules)
