use Rattle.std.proofs.Common.{map}
use Rattle.wenc_base.specs.Prelude.{HasForm, adds_listed_as, keeps_list, serves_form}
use Rattle.wenc_sections.specs.Prelude.{CoreInstantiate, core_instance, core_instantiate_listed}
use Rattle.wenc_sections.specs.Prelude.{named_pair}
use Rattle.wenc_sections.proofs.instances.Counted+CoreInstances+A.instantiate.Goals as goal

pub returns : goal.returns
returns g c = rw (← c.self.view_is) (adds_listed_as g.I.Iterator.next_gives c.args.args _ _ _ _ _
    (core_instantiate_listed g.S.Encode.piece g.S.Named.named g.met.S.Named.as_name c.args.module_index) c.add_listed.ensures.added)

pub invariant_of-self : goal.invariant_of-self
invariant_of-self g c =
    keeps_list (HasForm core_instance) g.I.Iterator.next_gives c.args.args _ c.self.inside.items c.add_listed.new.self c.add_listed.result
    (λ vs. serves_form core_instance (CoreInstantiate c.args.module_index (map (named_pair g.S.Named.named) vs))
    (core_instantiate_listed g.S.Encode.piece g.S.Named.named g.met.S.Named.as_name c.args.module_index vs)) c.add_listed.ensures.added
    c.self.invariant
