use Rattle.std.proofs.Common.{◌∙◌, ap}
use Rattle.wenc_builder.specs.Builder.{Namespace}
use Rattle.wenc_builder.proofs.Undone.{found}
use Rattle.wenc_builder.proofs.builder.spaces.Spaces.count.Goals as goal

pub returns : goal.returns
returns g c =
    c.count.ensures ∙ ap (λ (s : Namespace). s.count) c.index.ensures
    ∙ rw (c.number.ensures.is, ← c.self.view_is) (ap (λ (s : Namespace). s.count) (found c.self.inside.spaces.items c.args.space _ c.self.invariant))
