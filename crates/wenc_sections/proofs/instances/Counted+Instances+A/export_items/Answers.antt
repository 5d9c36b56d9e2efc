use Rattle.std.proofs.Common.{map}
use Rattle.wenc_base.specs.Prelude.{HasForm, adds_listed_as, keeps_list, serves_form}
use Rattle.wenc_parts.specs.Prelude.{extern_name_view}
use Rattle.wenc_sections.specs.Prelude.{Exports, exports_listed, instance, named_triple}
use Rattle.wenc_sections.proofs.instances.Counted+Instances+A.export_items.Goals as goal

pub returns : goal.returns
returns g c = rw (← c.self.view_is) (adds_listed_as g.I.Iterator.next_gives c.args.exports _ _ _ _ _
    (exports_listed extern_name_view) c.add_listed.ensures.added)

pub invariant_of-self : goal.invariant_of-self
invariant_of-self g c =
    keeps_list (HasForm instance) g.I.Iterator.next_gives c.args.exports _ c.self.inside.items c.add_listed.new.self c.add_listed.result
    (λ vs. serves_form instance (Exports (map (named_triple extern_name_view) vs)) (exports_listed extern_name_view vs))
    c.add_listed.ensures.added c.self.invariant
