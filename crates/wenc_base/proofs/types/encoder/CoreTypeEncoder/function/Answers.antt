use Rattle.wenc_base.specs.Prelude.{list, val_type, ◌▸◌}
use Rattle.wenc_base.proofs.Ended.{function_ends}
use Rattle.wenc_base.proofs.Grown.{ended_lists}
use Rattle.wenc_base.proofs.types.encoder.CoreTypeEncoder.function.Goals as goal

pub returns : goal.returns
returns g c =
    ended_lists g.L.Parent.appended g.L.Parent.ended g.L.Parent.refuses g.P.Iterator.next_gives c.args.params g.R.Iterator.next_gives c.args.results
    c.args.self.parent.now c.append_list.new.self c.end_with_list.new.self c.end_with_list.result
    (λ ts. 0x60 ▸ list val_type ts) (list val_type) c.in_ok-append_list.ensures c.end_with_list.ensures

pub end_with_list-requires-clause-whole : goal.end_with_list-requires-clause-whole
end_with_list-requires-clause-whole g c vs =
    let added = c.in_ok-append_list.ensures.ok in
    function_ends g.L.Parent.is_whole g.L.Parent.appended g.L.Parent.joins c.args.self.parent.now c.append_list.new.self c.args.self.guard
    c.args.self.whole added.0.items added.3.state added.3.fits vs
