use Rattle.std.proofs.Common.{rules}
use Rattle.wenc_base.proofs.Added.{cut_fits, given_up_view}
use Rattle.wenc_base.proofs.holder.Holder.discard_unfinished.Goals as goal

pub invariant_of-self : goal.invariant_of-self
invariant_of-self g c =
    let fits = cut_fits c.self.inside.bytes.items _ c.self.inside.kept c.self.inside.count c.saturating_sub-self-inside.result
    c.in-Some.opening.member_start (search rules) c.self.invariant.0 c.self.invariant.1 (search rules) in
    (fits.0, fits.1, tt)

pub returns-in-Some : goal.returns-in-Some
returns-in-Some g c =
    let same = given_up_view c.self.inside.bytes.items c.truncate.new.self.items c.self.inside.kept c.self.inside.count _
    c.self.inside.opening c.in-Some.opening c.args.self.now
    (search rules) c.self.invariant.0 c.self.view_is c.in-Some.is c.saturating_sub-self-inside.ensures in
    record { same = same; returned = search rules }
