use Rattle.std.proofs.Common.{rules, ◌∙◌}
use Rattle.wenc_base.specs.Prelude.{Array, Func, Struct, read_field_type, read_list, read_val_type}
use Rattle.wenc_read.specs.Prelude.{at_first}
use Rattle.wenc_view.proofs.Tables.{made_of, made_of_both}
use Rattle.std.proofs.Common.{[], ◌∷◌}
use Rattle.wenc_view.specs.Members.{place_of}
use Rattle.wenc_view.specs.laws.Lists.{behind_byte, two_counted}
use Rattle.wenc_view.proofs.composites.CompositeViewView.view_of.Goals as goal

pub returns-in_ok-element-in-94-default-clause-found : goal.returns-in_ok-element-in-94-default-clause-found
returns-in_ok-element-in-94-default-clause-found c = at_first _ _ 0x5e _ _ _ c.in_ok-rest.ensures.found (search rules)
    ∙ made_of Array read_field_type _ _ _ c.in_ok-element-in-94-default.ensures.found

pub returns-in_ok-fields-in-95-default-clause-found : goal.returns-in_ok-fields-in-95-default-clause-found
returns-in_ok-fields-in-95-default-clause-found c = at_first _ _ 0x5f _ _ _ c.in_ok-rest.ensures.found (search rules)
    ∙ made_of (λ fs. Struct fs) (read_list read_field_type) _ _ _ c.in_ok-fields-in-95-default.ensures.found

pub returns-in_ok-results-in-96-default-clause-found : goal.returns-in_ok-results-in-96-default-clause-found
returns-in_ok-results-in-96-default-clause-found c =
    (at_first _ _ 0x60 _ _ _ c.in_ok-rest.ensures.found (search rules)
    ∙ made_of_both (λ ps rs. Func ps rs) (read_list read_val_type) (read_list read_val_type) _ _ _ _ _ c.in_ok-params-in-96-default.ensures.found
    c.in_ok-results-in-96-default.ensures.found)

pub returns-in_ok-results-in-96-default-clause-counted : goal.returns-in_ok-results-in-96-default-clause-counted
returns-in_ok-results-in-96-default-clause-counted c =
    let first = c.in_ok-params-in-96-default in
    let second = c.in_ok-results-in-96-default in
    behind_byte _ _ _ (place_of read_val_type first.params ∷ place_of read_val_type second.results ∷ []) _ c.in_ok-rest.ensures.found
    (two_counted _ _ _ _ _ first.ensures.counted second.ensures.counted)

pub returns-in_ok-fields-in-95-default-clause-counted : goal.returns-in_ok-fields-in-95-default-clause-counted
returns-in_ok-fields-in-95-default-clause-counted c = behind_byte _ _ _ (place_of read_field_type c.in_ok-fields-in-95-default.fields ∷ []) _ c.in_ok-rest.ensures.found c.in_ok-fields-in-95-default.ensures.counted
