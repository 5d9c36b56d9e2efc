use Rattle.std.proofs.Common.{sym, ◌∙◌}
use Rattle.wenc_base.specs.Prelude.{HasForm, adds_as, held_members, keeps_took, ◌▸◌}
use Rattle.wenc_types.specs.Prelude.{component_has_form, component_serves, def_type}
use Rattle.wenc_sections.proofs.types.Counted+ComponentTypes+A.component.Goals as goal

pub invariant_of-self : goal.invariant_of-self
invariant_of-self g c =
    keeps_took (HasForm def_type) (0x41 ▸ held_members c.args.ty.now.held) c.self.inside.items c.add_encoded.new.self c.add_encoded.result
    (λ fits. component_has_form c.args.ty.now fits (c.is_finished.ensures.declares
    (sym c.is_finished.ensures.finished ∙ c.if-not-is_finished.false))) c.add_encoded.ensures.added c.self.invariant

pub returns-clause-declared : goal.returns-clause-declared
returns-clause-declared g c =
    λ ds h. rw (← c.self.view_is) (adds_as _ c.add_encoded.new.self _ (component_serves c.args.ty.now ds h) c.add_encoded.ensures.added)
