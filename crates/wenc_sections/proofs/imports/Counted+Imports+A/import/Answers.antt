use Rattle.wenc_base.specs.Prelude.{HasForm, adds_as, keeps_took, serves_form}
use Rattle.wenc_parts.specs.Prelude.{extern_name_view}
use Rattle.wenc_sections.specs.Prelude.{import_item, imported}
use Rattle.wenc_sections.proofs.Served.{import_serves}
use Rattle.wenc_sections.proofs.imports.Counted+Imports+A.import.Goals as goal

pub returns : goal.returns
returns g c = rw (← c.self.view_is) (adds_as _ c.add_encoded.new.self _ (import_serves (extern_name_view c.args.name) c.args.ty) c.add_encoded.ensures.added)

pub invariant_of-self : goal.invariant_of-self
invariant_of-self g c =
    keeps_took (HasForm import_item) _ c.self.inside.items c.add_encoded.new.self c.add_encoded.result
    (serves_form import_item (imported (extern_name_view c.args.name) c.args.ty) (import_serves (extern_name_view c.args.name) c.args.ty))
    c.add_encoded.ensures.added c.self.invariant
