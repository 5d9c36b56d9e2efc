use Rattle.std.proofs.Common.{◌∷◌, sym, ◌∙◌}
use Rattle.wenc_base.specs.Prelude.{form_ends, held_text}
use Rattle.wenc_types.specs.Prelude.{def_type, instance_has_form, instance_serves}
use Rattle.wenc_types.proofs.Serving.{ends_for}
use Rattle.wenc_types.proofs.encoders.ty.ComponentTypeEncoder.instance.Goals as goal

pub end_with-requires-clause-whole : goal.end_with-requires-clause-whole
end_with-requires-clause-whole g c = λ fits.
    form_ends def_type g.L.Parent.is_whole g.L.Parent.appended c.args.self.parent.now c.args.self.whole (0x42 ∷ held_text c.args.ty.now.held)
    (instance_has_form c.args.ty.now fits (c.is_finished.ensures.declares (sym c.is_finished.ensures.finished ∙ c.if-not-is_finished.false)))

pub returns-clause-declared : goal.returns-clause-declared
returns-clause-declared g c =
    λ ds h. ends_for g.L.Parent.appended g.L.Parent.ended g.L.Parent.refuses (instance_serves c.args.ty.now ds h) c.end_with.ensures.ended
