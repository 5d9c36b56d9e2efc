use Rattle.wenc_view.specs.laws.Members.{list_counted}
use Rattle.wenc_view.proofs.list_of.ListOfView.view_of.Goals as goal

pub returns-clause-counted : goal.returns-clause-counted
returns-clause-counted g c =
    list_counted g.T.View.reading.read c.in_ok-left.left c.args.bytes.now c.in_ok-left.start.now _ c.in_ok-rest.rest.now c.in_ok-left.ensures.found
    c.in_ok-rest.ensures.found
