use Rattle.std.proofs.Common.{rules}
use Rattle.wenc_base.proofs.Added.{cut_fits, cut_view}
use Rattle.wenc_base.proofs.holder.Holder.cut_back.Goals as goal

pub invariant_of-self : goal.invariant_of-self
invariant_of-self g c =
    let fits = cut_fits c.self.inside.bytes.items _ c.self.inside.kept c.self.inside.count c.args.len c.args.bytes
    (search rules) c.self.invariant.0 c.self.invariant.1 (search rules) in
    (fits.0, fits.1, c.self.invariant.2)

pub returns : goal.returns
returns g c =
    rw (← c.self.view_is) (cut_view c.self.inside.bytes.items _ c.self.inside.kept c.args.len c.args.bytes c.self.inside.opening
    (search rules) c.self.invariant.0)
