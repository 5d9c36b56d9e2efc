use Rattle.wenc_view.specs.laws.Lists.{behind_byte, behind_number}
use Rattle.wenc_view.specs.Instances.{core_instance_lists}
use Rattle.wenc_view.specs.declared.instances.CoreInstanceView.TheVariants as views
use Rattle.wenc_view.proofs.instances.CoreInstanceViewView.view_of.Goals as goal

pub returns-in_ok-args-in-0-default-clause-counted : goal.returns-in_ok-args-in-0-default-clause-counted
returns-in_ok-args-in-0-default-clause-counted c =
    let at_args = c.in_ok-args-in-0-default in
    let lists = core_instance_lists (views.Instantiate c.in_ok-module-in-0-default.module at_args.args) in
    behind_byte _ _ _ lists _ c.in_ok-rest.ensures.found (behind_number _ _ _ lists _ c.in_ok-module-in-0-default.ensures.found at_args.ensures.counted)

pub returns-in_ok-exports-in-1-default-clause-counted : goal.returns-in_ok-exports-in-1-default-clause-counted
returns-in_ok-exports-in-1-default-clause-counted c = behind_byte _ _ _ (core_instance_lists (views.Exports c.in_ok-exports-in-1-default.exports)) _ c.in_ok-rest.ensures.found c.in_ok-exports-in-1-default.ensures.counted
