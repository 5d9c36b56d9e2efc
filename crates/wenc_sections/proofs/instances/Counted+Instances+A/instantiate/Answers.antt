use Rattle.std.proofs.Common.{map}
use Rattle.wenc_base.specs.Prelude.{HasForm, adds_listed_as, keeps_list, serves_form}
use Rattle.wenc_sections.specs.Prelude.{Instantiate, instance, instantiate_listed, named_triple}
use Rattle.wenc_sections.proofs.instances.Counted+Instances+A.instantiate.Goals as goal

pub returns : goal.returns
returns g c = rw (← c.self.view_is) (adds_listed_as g.I.Iterator.next_gives c.args.args _ _ _ _ _
    (instantiate_listed g.S.Encode.piece g.S.Named.named g.met.S.Named.as_name c.args.component_index) c.add_listed.ensures.added)

pub invariant_of-self : goal.invariant_of-self
invariant_of-self g c =
    keeps_list (HasForm instance) g.I.Iterator.next_gives c.args.args _ c.self.inside.items c.add_listed.new.self c.add_listed.result
    (λ vs. serves_form instance (Instantiate c.args.component_index (map (named_triple g.S.Named.named) vs))
    (instantiate_listed g.S.Encode.piece g.S.Named.named g.met.S.Named.as_name c.args.component_index vs)) c.add_listed.ensures.added
    c.self.invariant
