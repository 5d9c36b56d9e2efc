use Rattle.wenc_types.specs.laws.TypeState.{declaring_ended}
use Rattle.wenc_types.proofs.declarations.DeclarationsParent.end_member.Goals as goal

pub invariant_of-self : goal.invariant_of-self
invariant_of-self g c =
    let t = c.self.inside in
    rw c.finish_member.ensures
    (declaring_ended g.K.DeclaredKind.form g.K.DeclaredKind.space (record { held = t.held; counts = t.counts; begun = t.begun })
    (rw (← c.self.view_is) at c.requires) c.self.invariant)
