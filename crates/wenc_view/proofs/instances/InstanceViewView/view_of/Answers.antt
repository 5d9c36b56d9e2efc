use Rattle.std.proofs.Common.{rules, ◌∙◌}
use Rattle.wenc_base.specs.Prelude.{read_list, read_u32}
use Rattle.wenc_sections.specs.Prelude.{Exports, read_triple}
use Rattle.wenc_parts.specs.Prelude.{read_component_export_kind, read_extern_name}
use Rattle.wenc_read.specs.Prelude.{at_first}
use Rattle.wenc_view.proofs.Tables.{made_of}
use Rattle.wenc_view.specs.laws.Lists.{behind_byte, behind_number}
use Rattle.wenc_view.specs.Instances.{instance_lists}
use Rattle.wenc_view.specs.declared.instances.InstanceView.TheVariants as views
use Rattle.wenc_view.proofs.instances.InstanceViewView.view_of.Goals as goal

pub returns-in_ok-exports-in-1-default-clause-found : goal.returns-in_ok-exports-in-1-default-clause-found
returns-in_ok-exports-in-1-default-clause-found c = at_first _ _ 0x01 _ _ _ c.in_ok-rest.ensures.found (search rules)
    ∙ made_of Exports (read_list (read_triple read_extern_name read_component_export_kind read_u32)) _ _ _ c.in_ok-exports-in-1-default.ensures.found

pub returns-in_ok-args-in-0-default-clause-counted : goal.returns-in_ok-args-in-0-default-clause-counted
returns-in_ok-args-in-0-default-clause-counted c =
    let at_args = c.in_ok-args-in-0-default in
    let lists = instance_lists (views.Instantiate c.in_ok-component-in-0-default.component at_args.args) in
    behind_byte _ _ _ lists _ c.in_ok-rest.ensures.found (behind_number _ _ _ lists _ c.in_ok-component-in-0-default.ensures.found at_args.ensures.counted)

pub returns-in_ok-exports-in-1-default-clause-counted : goal.returns-in_ok-exports-in-1-default-clause-counted
returns-in_ok-exports-in-1-default-clause-counted c = behind_byte _ _ _ (instance_lists (views.Exports c.in_ok-exports-in-1-default.exports)) _ c.in_ok-rest.ensures.found c.in_ok-exports-in-1-default.ensures.counted
