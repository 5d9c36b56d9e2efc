use Rattle.std.proofs.Common.{rules, ◌∙◌}
use Rattle.wenc_base.specs.Prelude.{read_list, read_u32}
use Rattle.wenc_canon.specs.Prelude.{Lower, read_canonical_option}
use Rattle.wenc_read.specs.Prelude.{at_first}
use Rattle.wenc_view.proofs.Tables.{made_of_both}
use Rattle.std.proofs.Common.{[], ◌∷◌}
use Rattle.wenc_view.specs.Members.{place_of}
use Rattle.wenc_view.specs.laws.Lists.{behind_byte, behind_number}
use Rattle.wenc_view.proofs.canonicals.lowered.Goals as goal

pub returns-in_ok-options-in-0-default-clause-found : goal.returns-in_ok-options-in-0-default-clause-found
returns-in_ok-options-in-0-default-clause-found c =
    at_first _ _ 0x00 _ _ _ c.in_ok-rest.ensures.found (search rules)
    ∙ made_of_both (λ f os. Lower f os) read_u32 (read_list read_canonical_option) _ _ _ _ _ c.in_ok-func-in-0-default.ensures.found
    (c.in_ok-options-in-0-default.ensures.found)

pub returns-in_ok-options-in-0-default-clause-counted : goal.returns-in_ok-options-in-0-default-clause-counted
returns-in_ok-options-in-0-default-clause-counted c =
    let lists = place_of read_canonical_option c.in_ok-options-in-0-default.options ∷ [] in
    behind_byte _ _ _ lists _ c.in_ok-rest.ensures.found (behind_number _ _ _ lists _ c.in_ok-func-in-0-default.ensures.found
    c.in_ok-options-in-0-default.ensures.counted)
