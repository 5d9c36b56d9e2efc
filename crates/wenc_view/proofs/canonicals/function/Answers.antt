use Rattle.std.proofs.Common.{refl}
use Rattle.std.proofs.Common.{[], ◌∷◌}
use Rattle.wenc_canon.specs.Prelude.{read_canonical_option}
use Rattle.wenc_parts.specs.Prelude.{result_list_lawful, result_list_sound}
use Rattle.wenc_view.specs.Members.{place_of}
use Rattle.wenc_view.specs.laws.Lists.{behind}
use Rattle.wenc_view.proofs.canonicals.function.Goals as goal

pub returns-in_ok-index-in-2-clause-found : goal.returns-in_ok-index-in-2-clause-found
returns-in_ok-index-in-2-clause-found c = rw (c.in-2.is, c.in_ok-index-in-2.ensures.found) refl

pub returns-in_ok-index-in-3-clause-found : goal.returns-in_ok-index-in-3-clause-found
returns-in_ok-index-in-3-clause-found c = rw (c.in-3.is, c.in_ok-index-in-3.ensures.found) refl

pub returns-in_ok-index-in-4-clause-found : goal.returns-in_ok-index-in-4-clause-found
returns-in_ok-index-in-4-clause-found c = rw (c.in-4.is, c.in_ok-index-in-4.ensures.found) refl

pub returns-in-5-clause-found : goal.returns-in-5-clause-found
returns-in-5-clause-found c = rw c.in-5.is refl

pub returns-in_ok-async_-in-6-clause-found : goal.returns-in_ok-async_-in-6-clause-found
returns-in_ok-async_-in-6-clause-found c = rw (c.in-6.is, c.in_ok-async_-in-6.ensures.found) refl

pub returns-in_ok-options-in-9-clause-found : goal.returns-in_ok-options-in-9-clause-found
returns-in_ok-options-in-9-clause-found c = rw (c.in-9.is, c.in_ok-ty-in-9.ensures.found, c.in_ok-options-in-9.ensures.found) refl

pub returns-in_ok-ty-in-10-clause-found : goal.returns-in_ok-ty-in-10-clause-found
returns-in_ok-ty-in-10-clause-found c = rw (c.in-10.is, c.in_ok-ty-in-10.ensures.found) refl

pub returns-in_ok-ty-in-11-clause-found : goal.returns-in_ok-ty-in-11-clause-found
returns-in_ok-ty-in-11-clause-found c = rw (c.in-11.is, c.in_ok-ty-in-11.ensures.found) refl

pub returns-in_ok-rest-in-12-clause-found : goal.returns-in_ok-rest-in-12-clause-found
returns-in_ok-rest-in-12-clause-found c = rw (c.in-12.is, c.in_ok-rest-in-12.ensures.found) refl

pub returns-in-13-clause-found : goal.returns-in-13-clause-found
returns-in-13-clause-found c = rw c.in-13.is refl

pub returns-in_ok-options-in-9-clause-counted : goal.returns-in_ok-options-in-9-clause-counted
returns-in_ok-options-in-9-clause-counted c =
    behind result_list_sound result_list_lawful _ _ _ (place_of read_canonical_option c.in_ok-options-in-9.options ∷ []) _ c.in_ok-ty-in-9.ensures.found
    c.in_ok-options-in-9.ensures.counted
