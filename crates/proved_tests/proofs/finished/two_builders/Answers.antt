use Rattle.std.proofs.Common.{sym, ◌∙◌}
use Rattle.proved_tests.proofs.finished.two_builders.Goals as goal

pub returns-in-Ok-finish : goal.returns-in-Ok-finish
returns-in-Ok-finish g c es fs h k none_raw no_other =
    let first = c.in-Ok.ensures.held es h in
    let second = c.in-Ok-finish.ensures.held fs k in
    let law = c.held_items_tell_bytes.ensures _ _ es fs h k none_raw no_other in
    (λ same. law.0 (sym first ∙ (same ∙ second)), λ same. first ∙ (law.1 same ∙ sym second))
