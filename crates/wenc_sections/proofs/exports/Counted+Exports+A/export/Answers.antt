use Rattle.wenc_base.specs.Prelude.{HasForm, adds_as, keeps_took, serves_form}
use Rattle.wenc_parts.specs.Prelude.{extern_name_view}
use Rattle.wenc_sections.specs.Prelude.{ascribed, export_item}
use Rattle.wenc_sections.proofs.Served.{export_serves}
use Rattle.wenc_sections.proofs.exports.Counted+Exports+A.export.Goals as goal

pub returns : goal.returns
returns g c = rw (← c.self.view_is) (adds_as _ c.add_encoded.new.self _
    (export_serves (extern_name_view c.args.name) c.args.kind c.args.index c.args.ty) c.add_encoded.ensures.added)

pub invariant_of-self : goal.invariant_of-self
invariant_of-self g c =
    keeps_took (HasForm export_item) _ c.self.inside.items c.add_encoded.new.self c.add_encoded.result
    (serves_form export_item (ascribed (extern_name_view c.args.name) c.args.kind c.args.index c.args.ty)
    (export_serves (extern_name_view c.args.name) c.args.kind c.args.index c.args.ty))
    c.add_encoded.ensures.added c.self.invariant
