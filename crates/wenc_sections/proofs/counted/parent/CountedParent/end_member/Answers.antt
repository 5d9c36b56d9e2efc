use Rattle.wenc_base.specs.laws.Members.{keeps_closed}
use Rattle.wenc_sections.proofs.counted.parent.CountedParent.end_member.Goals as goal

pub invariant_of-self : goal.invariant_of-self
invariant_of-self g c = rw c.finish_member.ensures
    (keeps_closed g.K.CountedKind.is_item c.self.inside.items (rw (← c.self.view_is) at c.requires) c.self.invariant)
