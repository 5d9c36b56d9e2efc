use denote.Param.{param}
use Rattle.std.proofs.lemmas.Bool.Decides.{Decides-at}
use Rattle.std.specs.contracts.vec.Vec.{the_row as vectors}
use Rattle.wenc_canon.specs.contracts.canonicals.CanonicalOption.{the_row as options}
use Rattle.proved_parts.proofs.EqualTrees.{lists, trees}
use Rattle.proved_parts.proofs.values.equality.canonical_functions.Goals as goal

pub returns : goal.returns
returns g c = Decides-at _ _ c.eq.ensures (trees (vectors options (param 0 g.row.A) g.A.Allocator) _ g.A.Allocator-dict
    (λ v. v.items) (λ v w. lists v.items w.items) c.args.one.now c.args.other.now)
