use Rattle.std.proofs.Common.{[], ◌∷◌}
use Rattle.wenc_parts.specs.Prelude.{result_list_lawful, result_list_sound}
use Rattle.wenc_types.specs.Prelude.{read_labelled_type}
use Rattle.wenc_view.specs.Members.{place_of}
use Rattle.wenc_view.specs.laws.Lists.{up_to}
use Rattle.wenc_view.proofs.type_views.function_type.Goals as goal

pub returns-clause-counted : goal.returns-clause-counted
returns-clause-counted c =
    up_to result_list_sound result_list_lawful _ _ (place_of read_labelled_type c.in_ok-params.params ∷ []) _ _ c.in_ok-answer.ensures.found
    c.in_ok-params.ensures.counted
