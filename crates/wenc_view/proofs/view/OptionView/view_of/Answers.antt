use Rattle.wenc_view.specs.laws.Lists.{behind_byte}
use Rattle.wenc_view.proofs.view.OptionView.view_of.Goals as goal

pub returns-in_ok-value-in-1-default-clause-counted : goal.returns-in_ok-value-in-1-default-clause-counted
returns-in_ok-value-in-1-default-clause-counted g c = behind_byte _ _ _ (g.T.View.lists c.in_ok-value-in-1-default.value) _ c.in_ok-rest.ensures.found c.in_ok-value-in-1-default.ensures.counted
