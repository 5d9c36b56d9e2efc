use Rattle.wenc_view.proofs.laws.views_are_exact.Goals as goal

pub returns : goal.returns
returns g c = g.T.View.reading.exact
