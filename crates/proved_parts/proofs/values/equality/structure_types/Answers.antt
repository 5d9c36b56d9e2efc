use denote.Param.{param}
use Rattle.std.proofs.lemmas.Bool.Decides.{Decides-at}
use Rattle.proved_parts.proofs.Equalities.{structures}
use Rattle.proved_parts.proofs.values.equality.structure_types.Goals as goal

pub returns : goal.returns
returns g c = Decides-at _ _ c.eq.ensures (structures (param 0 g.row.A) g.A.Allocator g.A.Allocator-dict g.A.Destruct-dict c.args.one.now c.args.other.now)
