use Rattle.wenc_base.specs.Prelude.{HasForm, adds_as, keeps_took, serves_form}
use Rattle.wenc_types.specs.Prelude.{ResourceType, def_type}
use Rattle.wenc_sections.proofs.Served.{resource_serves}
use Rattle.wenc_sections.proofs.types.Counted+ComponentTypes+A.resource.Goals as goal

pub returns : goal.returns
returns g c = rw (← c.self.view_is) (adds_as _ c.add_encoded.new.self _ (resource_serves c.args.rep c.args.dtor) c.add_encoded.ensures.added)

pub invariant_of-self : goal.invariant_of-self
invariant_of-self g c =
    keeps_took (HasForm def_type) _ c.self.inside.items c.add_encoded.new.self c.add_encoded.result
    (serves_form def_type (ResourceType c.args.rep c.args.dtor) (resource_serves c.args.rep c.args.dtor)) c.add_encoded.ensures.added c.self.invariant
