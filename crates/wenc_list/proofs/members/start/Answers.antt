use Rattle.std.proofs.Common.{[], ◌∷◌}
use Rattle.wenc_base.specs.reading.Numbers.{read_u32}
use Rattle.wenc_view.specs.Members.{place_of}
use Rattle.wenc_view.specs.laws.Lists.{behind_number, up_to_number}
use Rattle.wenc_list.proofs.members.start.Goals as goal

pub returns-clause-counted : goal.returns-clause-counted
returns-clause-counted c =
    let lists = place_of read_u32 c.in_ok-args.args ∷ [] in
    behind_number _ _ _ lists _ c.in_ok-function.ensures.found (up_to_number _ _ lists _ _ c.in_ok-results.ensures.found
    c.in_ok-args.ensures.counted)
