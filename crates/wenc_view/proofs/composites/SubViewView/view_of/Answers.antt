use Rattle.std.proofs.Common.{rules, ◌∙◌, false, true, Some, [], ◌∷◌, refl}
use Rattle.wenc_base.specs.Prelude.{Bad, composite_rows, final, give, nowhere, read_closed}
use Rattle.wenc_base.specs.Prelude.{read_composite, read_extension, sub_of, sub_rows}
use Rattle.wenc_read.specs.Prelude.{at_first, fails_on}
use Rattle.wenc_view.proofs.Rows.{wraps}
use Rattle.wenc_view.proofs.SubTypes.{composites_follow}
use Rattle.wenc_view.specs.CoreTypes.{composite_lists}
use Rattle.wenc_view.specs.laws.Lists.{if_behind_byte}
use Rattle.wenc_view.proofs.composites.SubViewView.view_of.Goals as goal

pub returns-in-Ok-clause-found : goal.returns-in-Ok-clause-found
returns-in-Ok-clause-found c =
    wraps final (composite_rows (λ d. d)) (composite_rows final) ((0x4f, read_closed (λ n d. sub_of true (Some n) d)) ∷ (
      0x50,
      read_extension
          (λ n d. sub_of false n d),
    ) ∷ []) (composites_follow final (λ d. d)) _ _ _ c.in_ok-rest.ensures.found (search rules)
    ∙ rw c.in-Ok.ensures.found refl

pub returns-in-80-default-clause-found : goal.returns-in-80-default-clause-found
returns-in-80-default-clause-found c = rw (at_first (sub_rows (λ s. s)) nowhere 0x50 _ _ _ c.in_ok-rest.ensures.found (search rules)) c.open.ensures.found

pub returns-in-Err-clause-found : goal.returns-in-Err-clause-found
returns-in-Err-clause-found c =
    rw (wraps final (composite_rows (λ d. d)) (composite_rows final) ((0x4f, read_closed (λ n d. sub_of true (Some n) d)) ∷ (
      0x50,
      read_extension
          (λ n d. sub_of false n d),
    ) ∷ []) (composites_follow final (λ d. d)) _ _ _ c.in_ok-rest.ensures.found (search rules))
    (fails_on Bad (read_composite c.args.bytes.now)
    (λ d. give (final d)) c.in-Err.ensures.found)

pub returns-in-80-default-clause-counted : goal.returns-in-80-default-clause-counted
returns-in-80-default-clause-counted c = if_behind_byte (λ x. composite_lists x.0.composite_type) (λ x. x.1.now) _ _ _ c.open.result c.in_ok-rest.ensures.found c.open.ensures.counted

pub returns-in-79-default-clause-counted : goal.returns-in-79-default-clause-counted
returns-in-79-default-clause-counted c = if_behind_byte (λ x. composite_lists x.0.composite_type) (λ x. x.1.now) _ _ _ c.closed.result c.in_ok-rest.ensures.found c.closed.ensures.counted
