use denote.Param.{param}
use Rattle.std.proofs.lemmas.Bool.Decides.{Decides-at}
use Rattle.proved_parts.proofs.Equalities.{declarations}
use Rattle.proved_parts.proofs.values.equality.declarations_of_modules.Goals as goal

pub returns : goal.returns
returns g c = Decides-at _ _ c.eq.ensures (declarations (param 0 g.row.A) g.A.Allocator g.A.Allocator-dict g.A.Destruct-dict c.args.one.now c.args.other.now)
