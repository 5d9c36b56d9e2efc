use Rattle.wenc_view.specs.Canonicals.{canon_lists}
use Rattle.wenc_view.specs.laws.Lists.{if_behind_byte}
use Rattle.wenc_view.proofs.canonicals.CanonViewView.view_of.Goals as goal

pub returns-clause-counted : goal.returns-clause-counted
returns-clause-counted c = if_behind_byte (λ x. canon_lists x.0) (λ x. x.1.now) _ _ _ c.function.result c.in_ok-opcode.ensures.found c.function.ensures.counted
