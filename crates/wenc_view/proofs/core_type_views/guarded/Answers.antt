use Rattle.std.proofs.Common.{rules, ◌∙◌, [], ◌∷◌, false, refl}
use Rattle.std.proofs.lemmas.Result.{err_from_is_err_and}
use Rattle.wenc_base.specs.Prelude.{Bad, Single, give, nowhere, read_extension, sub_of}
use Rattle.wenc_read.specs.Prelude.{at_first, fails_on}
use Rattle.wenc_types.specs.Prelude.{Grouped}
use Rattle.wenc_view.proofs.SubTypes.{extension_follows}
use Rattle.wenc_view.specs.CoreTypes.{composite_lists}
use Rattle.wenc_view.specs.laws.Lists.{behind_byte}
use Rattle.wenc_view.proofs.core_type_views.guarded.Goals as goal

pub returns-in_err-ty-in-80-default-clause-found : goal.returns-in_err-ty-in-80-default-clause-found
returns-in_err-ty-in-80-default-clause-found c =
    let p = err_from_is_err_and c.from_residual-in_err-ty-in-80-default.result c.from_residual-in_err-ty-in-80-default.ensures.1 in
    rw (
      p.1,
      at_first ((0x50, read_extension (λ n d. Grouped (Single (sub_of false n d)))) ∷ []) nowhere 0x50 _ _ _ c.in_ok-rest.ensures.found
          (search rules),
      extension_follows (λ s. Grouped (Single s)) (λ n d. sub_of false n d) c.in_ok-rest.field-0.1.now,
    )
    (fails_on Bad (read_extension (λ n d. sub_of false n d) c.in_ok-rest.field-0.1.now)
    (λ s. give (Grouped (Single s))) c.in_err-ty-in-80-default.ensures.found)

pub returns-in_ok-ty-in-80-default-clause-found : goal.returns-in_ok-ty-in-80-default-clause-found
returns-in_ok-ty-in-80-default-clause-found c =
    at_first ((0x50, read_extension (λ n d. Grouped (Single (sub_of false n d)))) ∷ []) nowhere 0x50 _ _ _ c.in_ok-rest.ensures.found (search rules)
    ∙ extension_follows (λ s. Grouped (Single s)) (λ n d. sub_of false n d) c.in_ok-rest.field-0.1.now
    ∙ rw c.in_ok-ty-in-80-default.ensures.found refl

pub returns-in_ok-ty-in-80-default-clause-counted : goal.returns-in_ok-ty-in-80-default-clause-counted
returns-in_ok-ty-in-80-default-clause-counted c = behind_byte _ _ _ (composite_lists c.in_ok-ty-in-80-default.ty.composite_type) _ c.in_ok-rest.ensures.found c.in_ok-ty-in-80-default.ensures.counted
