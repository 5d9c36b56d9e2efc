use Rattle.std.proofs.Common.{◌∙◌, [], ◌∷◌, refl, rules}
use Rattle.wenc_base.specs.Prelude.{Bad, RecType, Single, give, read_sub_type, read_types, sub_rows}
use Rattle.wenc_view.proofs.Rows.{wraps}
use Rattle.wenc_view.proofs.SubTypes.{subs_follow}
use Rattle.wenc_read.specs.Prelude.{fails_on}
use Rattle.wenc_view.specs.Members.{place_of}
use Rattle.wenc_view.specs.laws.Lists.{behind_byte}
use Rattle.wenc_view.proofs.composites.GroupViewView.view_of.Goals as goal

pub returns-in-Ok-clause-found : goal.returns-in-Ok-clause-found
returns-in-Ok-clause-found c =
    wraps Single (sub_rows (λ s. s)) (sub_rows Single) ((0x4e, read_types (λ (t : RecType). t)) ∷ []) (subs_follow Single (λ s. s)) _ _ _ c.in_ok-rest.ensures.found
    (search rules)
    ∙ rw c.in-Ok.ensures.found refl

pub returns-in-Err-clause-found : goal.returns-in-Err-clause-found
returns-in-Err-clause-found c =
    rw (wraps Single (sub_rows (λ s. s)) (sub_rows Single) ((0x4e, read_types (λ (t : RecType). t)) ∷ []) (subs_follow Single
    (λ s. s)) _ _ _ c.in_ok-rest.ensures.found (search rules))
    (fails_on Bad (read_sub_type c.args.bytes.now) (λ s. give (Single s)) c.in-Err.ensures.found)

pub returns-in_ok-types-in-78-default-clause-counted : goal.returns-in_ok-types-in-78-default-clause-counted
returns-in_ok-types-in-78-default-clause-counted c = behind_byte _ _ _ (place_of read_sub_type c.in_ok-types-in-78-default.types ∷ []) _ c.in_ok-rest.ensures.found c.in_ok-types-in-78-default.ensures.counted
