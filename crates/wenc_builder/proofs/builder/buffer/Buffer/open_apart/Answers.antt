use Rattle.std.proofs.Common.{◌≡◌, Ok, refl}
use Rattle.wenc_builder.proofs.Laid.{opens, begun}
use Rattle.wenc_builder.proofs.builder.buffer.Buffer.open_apart.Goals as goal

accepted : (g : _) (c : goal.After-open g) → c.open.result ≡ Ok tt
accepted g c = opens _ _ c.open.result (rw c.in_ok-items_end.ensures.ok at c.open.ensures.opened)
    (rw c.in_ok-items_end.ensures.ok at c.open.ensures.no_memory refl)

pub invariant_of-self-2 : goal.invariant_of-self-2
invariant_of-self-2 g c =
    begun c.self.inside.holder c.keep_all.new.self c.open.new.self _ c.self.inside.closed_len c.self.inside.kind c.self.inside.earlier
    c.args.kind c.len-count.result c.in_ok-items_end.items_end c.args.self.now c.open.result
    c.self.invariant c.self.view_is c.requires.settled c.requires.apart refl c.len-count.ensures.count c.len-count.ensures.fits
    c.in_ok-items_end.ensures.before c.in_ok-items_end.ensures.ok c.open.ensures.opened (accepted g c)

pub returns-clause-err : goal.returns-clause-err
returns-clause-err g c = rw (accepted g c) tt

pub returns-clause-refused : goal.returns-clause-refused
returns-clause-refused g c = rw (accepted g c) tt
