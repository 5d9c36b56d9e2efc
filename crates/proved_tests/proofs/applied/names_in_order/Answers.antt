use Rattle.std.proofs.Common.{sym, ◌∙◌}
use Rattle.std.proofs.Math.Logic.{∥∥₁_map}
use Rattle.proved_tests.proofs.applied.names_in_order.Goals as goal

pub returns : goal.returns
returns g c = λ finished.
    ∥∥₁_map (c.is_finished.ensures.holds (sym c.is_finished.ensures.finished ∙ finished))
    (λ h. (
      h.0,
      h.1,
      λ space. (
        c.named_indices_ascend.ensures.ascending h.0 space h.2,
        c.named_indices_ascend.ensures.below_count c.args.builder.now h.0 space h.1 h.2,
      ),
    ))
