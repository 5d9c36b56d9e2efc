use Rattle.std.proofs.Common.{◌≡◌, ◌↔◌, List, ℕ, refl, sym, ◌∙◌, subst}
use Rattle.wenc_builder.specs.Prelude.{Reading, builder_view, items, of_items, runs, sections_text}
use Rattle.wenc_builder.specs.Prelude.{spaced, whole}
use Rattle.std.proofs.Math.Logic.{∥∥₁_map}
use Rattle.wenc_builder.specs.laws.Held.{holds_some}
use Rattle.wenc_builder.proofs.Viewed.{finished_is}
use Rattle.wenc_builder.proofs.builder.ComponentBuilder.finish.Goals as goal

pub returns-clause-some : goal.returns-clause-some
returns-clause-some g c =
    let b = c.self.inside.buffer in
    let s = (spaced c.self.inside.spaces c.self.inside.undo) in
    let kept = c.self.invariant.0 in
    rw (← c.self.view_is)
    (∥∥₁_map (holds_some (builder_view b s) (sym (finished_is b s _ kept.agree refl) ∙ sym c.if-not-is_finished.ensures) kept.holds)
    (λ h. (h.0, h.1, c.finish.ensures ∙ h.1.sections.bytes, h.2)))

pub returns-clause-one_reading : goal.returns-clause-one_reading
returns-clause-one_reading g c es h raw mode ss =
    let bytes : sections_text c.self.inside.buffer.settled ≡ whole (items es) = (rw (← c.self.view_is) at h).sections.bytes in
    subst (λ (bs : List ℕ). Reading mode bs ss ↔ (ss ≡ runs (items es))) (sym (c.finish.ensures ∙ bytes)) (of_items mode (items es) ss raw h.fits)
