use Rattle.std.proofs.Common.{sym, ◌∙◌}
use Rattle.wenc_builder.specs.Entry.{items as items_of}
use Rattle.proved_tests.proofs.applied.finished_alike.Goals as goal

pub returns-in-Ok-finish : goal.returns-in-Ok-finish
returns-in-Ok-finish g c es fs h k raw other same =
    c.one_list.ensures (items_of es) (items_of fs) raw other h.fits k.fits (sym (c.in-Ok.ensures.held es h) ∙ (same ∙ c.in-Ok-finish.ensures.held fs k))
