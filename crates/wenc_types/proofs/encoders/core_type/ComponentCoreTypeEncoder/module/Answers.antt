use Rattle.std.proofs.Common.{◌∷◌, sym, ◌∙◌}
use Rattle.wenc_base.specs.Prelude.{form_ends, held_text}
use Rattle.wenc_types.specs.Prelude.{core_type}
use Rattle.wenc_types.specs.laws.Declarations.{module_serves}
use Rattle.wenc_types.specs.laws.TypeState.{module_has_form}
use Rattle.wenc_types.proofs.Serving.{ends_for}
use Rattle.wenc_types.proofs.encoders.core_type.ComponentCoreTypeEncoder.module.Goals as goal

pub end_with-requires-clause-whole : goal.end_with-requires-clause-whole
end_with-requires-clause-whole g c = λ fits.
    form_ends core_type g.L.Parent.is_whole g.L.Parent.appended c.args.self.parent.now c.args.self.whole (0x50 ∷ held_text c.args.ty.now.held)
    (module_has_form c.args.ty.now fits (c.is_finished.ensures.declares (sym c.is_finished.ensures.finished ∙ c.if-not-is_finished.false)))

pub returns-clause-declared : goal.returns-clause-declared
returns-clause-declared g c =
    λ ds h. ends_for g.L.Parent.appended g.L.Parent.ended g.L.Parent.refuses (module_serves c.args.ty.now ds h) c.end_with.ensures.ended
