use denote.Param.{param}
use Rattle.std.proofs.lemmas.Bool.Decides.{Decides-at}
use Rattle.proved_parts.proofs.DefinedEqualities.{defined_types}
use Rattle.proved_parts.proofs.values.equality.defined_types.Goals as goal

pub returns : goal.returns
returns g c = Decides-at _ _ c.eq.ensures (defined_types (param 0 g.row.A) g.A.Allocator g.A.Allocator-dict g.A.Destruct-dict c.args.one.now c.args.other.now)
