use Rattle.std.proofs.Common.{[], ◌∷◌}
use Rattle.wenc_canon.specs.Prelude.{read_canonical_option}
use Rattle.wenc_view.specs.Members.{place_of}
use Rattle.wenc_view.specs.laws.Lists.{behind_number}
use Rattle.wenc_view.proofs.canonicals.ty_and_options.Goals as goal

pub returns-clause-counted : goal.returns-clause-counted
returns-clause-counted c =
    behind_number _ _ _ (place_of read_canonical_option c.in_ok-options.options ∷ []) _ c.in_ok-ty.ensures.found c.in_ok-options.ensures.counted
