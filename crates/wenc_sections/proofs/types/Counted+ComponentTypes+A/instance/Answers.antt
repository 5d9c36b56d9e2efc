use Rattle.std.proofs.Common.{sym, ◌∙◌}
use Rattle.wenc_base.specs.Prelude.{HasForm, adds_as, held_members, keeps_took, ◌▸◌}
use Rattle.wenc_types.specs.Prelude.{def_type, instance_has_form, instance_serves}
use Rattle.wenc_sections.proofs.types.Counted+ComponentTypes+A.instance.Goals as goal

pub invariant_of-self : goal.invariant_of-self
invariant_of-self g c =
    keeps_took (HasForm def_type) (0x42 ▸ held_members c.args.ty.now.held) c.self.inside.items c.add_encoded.new.self c.add_encoded.result
    (λ fits. instance_has_form c.args.ty.now fits (c.is_finished.ensures.declares
    (sym c.is_finished.ensures.finished ∙ c.if-not-is_finished.false))) c.add_encoded.ensures.added c.self.invariant

pub returns-clause-declared : goal.returns-clause-declared
returns-clause-declared g c =
    λ ds h. rw (← c.self.view_is) (adds_as _ c.add_encoded.new.self _ (instance_serves c.args.ty.now ds h) c.add_encoded.ensures.added)
