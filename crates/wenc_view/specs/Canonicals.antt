-- Borrowed canonical functions as pure data.
use Rattle.std.specs.Prelude.{List, [], ◌∷◌}
use Rattle.wenc_canon.specs.Canonicals.{Canonical}
use Rattle.wenc_canon.specs.declared.canonicals.CanonicalOption.{CanonicalOption}
use Rattle.wenc_canon.specs.reading.Canonicals.{read_canonical_option}
use Rattle.wenc_sections.specs.CanonTrees.{canon_of}
use Rattle.wenc_sections.specs.declared.canon_tree.CanonOf.{CanonOf}
use Rattle.wenc_sections.specs.declared.canon_tree.CanonOf.TheVariants as kinds
use Rattle.wenc_view.specs.Members.{Place, list_view, place_of}
use Rattle.wenc_view.specs.declared.list_of.ListOf.{ListOf}

abbrev pub canon_seen : CanonOf (ListOf CanonicalOption) → Canonical
canon_seen f = canon_of (list_view read_canonical_option) f

-- where its options are
abbrev pub canon_lists : CanonOf (ListOf CanonicalOption) → List Place
canon_lists (kinds.Lift core_func ty options) = place_of read_canonical_option options ∷ []
canon_lists (kinds.Lower func options) = place_of read_canonical_option options ∷ []
canon_lists (kinds.TaskReturn ty options) = place_of read_canonical_option options ∷ []
canon_lists (kinds.StreamRead ty options) = place_of read_canonical_option options ∷ []
canon_lists (kinds.StreamWrite ty options) = place_of read_canonical_option options ∷ []
canon_lists (kinds.FutureRead ty options) = place_of read_canonical_option options ∷ []
canon_lists (kinds.FutureWrite ty options) = place_of read_canonical_option options ∷ []
canon_lists (kinds.ErrorContextNew options) = place_of read_canonical_option options ∷ []
canon_lists (kinds.ErrorContextDebugMessage options) = place_of read_canonical_option options ∷ []
canon_lists other = []
