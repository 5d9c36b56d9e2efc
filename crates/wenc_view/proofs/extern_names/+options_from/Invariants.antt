use Rattle.wenc_view.proofs.extern_names.+options_from.Given as goal

abbrev pub decreases-options_from : goal.decreases-options_from
decreases-options_from l = l.count
