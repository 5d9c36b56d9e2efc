use Rattle.std.proofs.Common.{[], ◌∷◌, sym}
use Rattle.std.proofs.lemmas.List.{append-nil}
use Rattle.wenc_sections.specs.Prelude.{sort_lawful}
use Rattle.wenc_view.specs.Members.{place_of}
use Rattle.wenc_view.specs.laws.Lists.{behind, in_shorter}
use Rattle.wenc_list.specs.DebugNames.{read_item_name}
use Rattle.wenc_list.specs.laws.DebugNames.{sort_sound}
use Rattle.wenc_list.proofs.debug_names.item_names.Goals as goal

pub returns-then-is_empty-clause-counted : goal.returns-then-is_empty-clause-counted
returns-then-is_empty-clause-counted c =
    let rest = c.in_ok-names.rest.now in
    let lists = place_of read_item_name c.in_ok-names.names ∷ [] in
    in_shorter c.args.content.now lists rest [] (rest, sym (append-nil rest))
    (behind sort_sound sort_lawful _ _ _ lists _ c.in_ok-space.ensures.found c.in_ok-names.ensures.counted)
