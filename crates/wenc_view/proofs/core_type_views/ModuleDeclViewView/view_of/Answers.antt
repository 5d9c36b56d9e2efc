use Rattle.std.proofs.Common.{rules, ◌∙◌}
use Rattle.wenc_base.specs.reading.Composites.{read_group}
use Rattle.wenc_read.specs.laws.Tables.{at_first}
use Rattle.wenc_types.specs.CoreTypes.{ModuleRecType}
use Rattle.wenc_view.proofs.Tables.{made_of}
use Rattle.wenc_view.specs.CoreTypes.{group_lists, module_declaration_lists}
use Rattle.wenc_view.specs.laws.Lists.{behind_byte, if_behind_byte}
use Rattle.wenc_view.proofs.core_type_views.ModuleDeclViewView.view_of.Goals as goal

pub returns-in_ok-ty-in-1-default-clause-found : goal.returns-in_ok-ty-in-1-default-clause-found
returns-in_ok-ty-in-1-default-clause-found c = at_first _ _ 0x01 _ _ _ c.in_ok-rest.ensures.found (search rules)
    ∙ made_of ModuleRecType read_group _ _ _ c.in_ok-ty-in-1-default.ensures.found

pub returns-in_ok-ty-in-1-default-clause-counted : goal.returns-in_ok-ty-in-1-default-clause-counted
returns-in_ok-ty-in-1-default-clause-counted c = behind_byte _ _ _ (group_lists c.in_ok-ty-in-1-default.ty) _ c.in_ok-rest.ensures.found c.in_ok-ty-in-1-default.ensures.counted

pub returns-in-2-default-clause-counted : goal.returns-in-2-default-clause-counted
returns-in-2-default-clause-counted c = if_behind_byte (λ x. module_declaration_lists x.0) (λ x. x.1.now) _ _ _ c.outer_type.result c.in_ok-rest.ensures.found c.outer_type.ensures.counted
