use Rattle.std.proofs.Common.{rules, ◌∙◌, true, Some}
use Rattle.wenc_base.specs.Prelude.{read_composite, read_u32, sub_of}
use Rattle.wenc_read.specs.Prelude.{at_first}
use Rattle.wenc_view.proofs.Tables.{made_of_both}
use Rattle.wenc_view.specs.CoreTypes.{composite_lists}
use Rattle.wenc_view.specs.laws.Lists.{behind_byte, behind_number}
use Rattle.wenc_view.proofs.composites.closed.Goals as goal

pub returns-in_ok-composite_type-in-1-default-clause-found : goal.returns-in_ok-composite_type-in-1-default-clause-found
returns-in_ok-composite_type-in-1-default-clause-found c =
    at_first _ _ 0x01 _ _ _ c.in_ok-rest.ensures.found (search rules)
    ∙ made_of_both (λ n d. sub_of true (Some n) d) read_u32 read_composite _ _ _ _ _ c.in_ok-supertype-in-1-default.ensures.found
    c.in_ok-composite_type-in-1-default.ensures.found

pub returns-in_ok-composite_type-in-1-default-clause-counted : goal.returns-in_ok-composite_type-in-1-default-clause-counted
returns-in_ok-composite_type-in-1-default-clause-counted c =
    let lists = composite_lists c.in_ok-composite_type-in-1-default.composite_type in
    behind_byte _ _ _ lists _ c.in_ok-rest.ensures.found (behind_number _ _ _ lists _ c.in_ok-supertype-in-1-default.ensures.found
    c.in_ok-composite_type-in-1-default.ensures.counted)
