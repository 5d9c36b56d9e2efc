-- What a builder holds: a list of entries.
use Rattle.std.specs.Prelude.{◌≡◌, List, [], ◌∷◌, length, Option, Some, None}
use Rattle.std.specs.List.{flat_map}
use Rattle.wenc_base.specs.Names.{names_text}
use Rattle.wenc_builder.specs.Item.{Item, item}
use Rattle.wenc_builder.specs.Sections.{Section, Run, Alone, runs, whole, IsEncodable}
use Rattle.wenc_builder.specs.Space.{next_index}
use Rattle.wenc_builder.specs.Entry.{Entry, items, names}
use Rattle.wenc_builder.specs.Builder.{OpenSection, SectionsState, sections_text}
use Rattle.wenc_builder.specs.Builder.{Namespace, namespace_at, State}
use Rattle.wenc_sections.specs.declared.space.Space.{Space}

-- the open section: the last one, where that collects items
abbrev pub open_of : List Section → Option OpenSection
open_of [] = None
open_of (Run id xs ∷ []) =
    Some (record { id = id; count = length xs; body = flat_map (λ x. (item x).text) xs })
open_of (Alone x ∷ []) = None
open_of (s ∷ t ∷ ss) = open_of (t ∷ ss)

-- The bytes are those of these items, and the open section is the last of theirs.
pub record SectionsHold (s : SectionsState) (xs : List Item) : Type 0 where
  pub bytes : sections_text s ≡ whole xs
  pub last : s.current ≡ open_of (runs xs)

-- what these entries make of space k
abbrev pub namespace_of : List Entry → Space → Namespace
namespace_of es k =
    record {
      count = next_index (items es) k;
      named = length (names es k);
      names = names_text (names es k);
    }

-- There are thirteen spaces, and each is what these entries make of it.
pub record SpacesHold (spaces : List Namespace) (es : List Entry) : Type 0 where
  pub all : length spaces ≡ 13
  pub each : (k : Space) → namespace_at spaces k ≡ namespace_of es k

-- The bytes are those of the entries' items, the open section is the last one, each space has what
-- they define, with their names, and the items can be encoded.
pub record Holds (s : State) (es : List Entry) : Type 0 where
  pub finished : s.begun ≡ None
  pub sections : SectionsHold s.settled.sections (items es)
  pub spaces : SpacesHold s.settled.spaces es
  pub fits : IsEncodable (items es)
