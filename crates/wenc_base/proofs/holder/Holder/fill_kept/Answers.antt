use Rattle.std.proofs.Common.{rules}
use Rattle.wenc_base.proofs.Kept.{kept_filled}
use Rattle.wenc_base.proofs.holder.Holder.fill_kept.Goals as goal

pub returns : goal.returns
returns g c =
    kept_filled c.self.inside.bytes.items _ c.args.bytes.now c.self.inside.kept c.args.start c.args.end c.self.inside.count
    c.self.inside.opening c.args.self.now
    c.self.invariant.0 c.self.view_is c.requires.within.0 c.requires.within.1 c.requires.short (search rules)
