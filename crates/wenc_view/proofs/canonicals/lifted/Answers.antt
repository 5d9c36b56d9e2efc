use Rattle.std.proofs.Common.{rules, ◌∙◌}
use Rattle.wenc_base.specs.Prelude.{read_list, read_u32}
use Rattle.wenc_canon.specs.Prelude.{Lift, read_canonical_option}
use Rattle.wenc_read.specs.Prelude.{at_first}
use Rattle.wenc_view.proofs.Tables.{made_of_three}
use Rattle.std.proofs.Common.{[], ◌∷◌}
use Rattle.wenc_view.specs.Members.{place_of}
use Rattle.wenc_view.specs.laws.Lists.{behind_byte, behind_number, up_to_number}
use Rattle.wenc_view.proofs.canonicals.lifted.Goals as goal

pub returns-in_ok-ty-in-0-default-clause-found : goal.returns-in_ok-ty-in-0-default-clause-found
returns-in_ok-ty-in-0-default-clause-found c =
    at_first _ _ 0x00 _ _ _ c.in_ok-rest.ensures.found (search rules)
    ∙ made_of_three (λ f os t. Lift f os t) read_u32 (read_list read_canonical_option) read_u32 _ _ _ _ _ _ _ c.in_ok-core_func-in-0-default.ensures.found
    (c.in_ok-options-in-0-default.ensures.found) c.in_ok-ty-in-0-default.ensures.found

pub returns-in_ok-ty-in-0-default-clause-counted : goal.returns-in_ok-ty-in-0-default-clause-counted
returns-in_ok-ty-in-0-default-clause-counted c =
    let lists = place_of read_canonical_option c.in_ok-options-in-0-default.options ∷ [] in
    behind_byte _ _ _ lists _ c.in_ok-rest.ensures.found (behind_number _ _ _ lists _ c.in_ok-core_func-in-0-default.ensures.found
    (up_to_number _ _ lists _ _ c.in_ok-ty-in-0-default.ensures.found c.in_ok-options-in-0-default.ensures.counted))
