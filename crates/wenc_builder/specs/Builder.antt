-- The state of a builder: settled content and, while an item is being written, that item.
use Rattle.std.specs.Prelude.{ℕ, List, [], ◌∷◌, ◌++◌, ◌+◌, Option, Some, None, Bool, is_none}
use Rattle.std.specs.Prelude.{nat_eq, if◌then◌else◌, slice_set, slice_index_or}
use Rattle.wenc_base.specs.Holder.{holding, section_text}
use Rattle.wenc_builder.specs.Item.{Item, collected, item}
use Rattle.wenc_sections.specs.Space.{space_number}
use Rattle.wenc_builder.specs.Space.{Indices, defines}
use Rattle.wenc_sections.specs.declared.space.Space.{Space}
use Rattle.wenc_base.specs.Names.{name_association}
use Rattle.wenc_parts.specs.SectionIds.{section_number}
use Rattle.wenc_parts.specs.declared.component.ComponentSectionId.{ComponentSectionId}
use Rattle.wenc_builder.specs.Entry.{Entry}

-- ---- sections

-- the section that takes more items: its id, how many items it has, and their bytes
pub record OpenSection : Type 0 where
  pub id : ℕ
  pub count : ℕ
  pub body : List ℕ

-- the bytes of an open section: its id and its size, and its items with their number
abbrev pub open_text_of : OpenSection → List ℕ
open_text_of o = o.id ∷ section_text (holding [] o.count o.body)

-- closed bytes, then the open section if there is one
pub record SectionsState : Type 0 where
  pub closed : List ℕ
  pub current : Option OpenSection

-- those of the open section, if there is one
abbrev pub open_text : Option OpenSection → List ℕ
open_text None = []
open_text (Some o) = open_text_of o

-- all bytes
abbrev pub sections_text : SectionsState → List ℕ
sections_text s = s.closed ++ open_text s.current

-- one more item: in the open section if that is of its kind, else in a new one
abbrev pub entered_at : List ℕ → Option OpenSection → ℕ → List ℕ → SectionsState
entered_at closed None id text =
    record { closed = closed; current = Some (record { id = id; count = 1; body = text }) }
entered_at closed (Some o) id text =
    if nat_eq o.id id
    then (record {
      closed = closed;
      current = Some (record { id = o.id; count = o.count + 1; body = o.body ++ text });
    })
    else (record {
      closed = closed ++ open_text_of o;
      current = Some (record { id = id; count = 1; body = text });
    })

abbrev pub entered : SectionsState → ℕ → List ℕ → SectionsState
entered s id text = entered_at s.closed s.current id text

-- a section of its own after all others
abbrev pub with_section : SectionsState → List ℕ → SectionsState
with_section s text = record { closed = sections_text s ++ text; current = None }

-- one more item: in a section of this id, or a section of its own
abbrev pub with_item_at : Option ℕ → SectionsState → List ℕ → SectionsState
with_item_at None s text = with_section s text
with_item_at (Some id) s text = entered s id text

-- one more item, in a section of its kind or of its own
abbrev pub with_item : SectionsState → Item → SectionsState
with_item s x = with_item_at (collected x) s (item x).text

-- ---- index spaces

-- the number of items in a space, the number of their names, and the text of those names
pub record Namespace : Type 0 where
  pub count : ℕ
  pub named : ℕ
  pub names : List ℕ

abbrev pub no_names : Namespace
no_names = record { count = 0; named = 0; names = [] }

-- this many more items, the first of them with this name or none
abbrev pub namespace_with : Namespace → ℕ → Option (List ℕ) → Namespace
namespace_with s number None = record { count = s.count + number; named = s.named; names = s.names }
namespace_with s number (Some name) = record {
  count = s.count + number;
  named = s.named + 1;
  names = s.names ++ (name_association (record { index = s.count; name = name })).text;
}

-- what is kept of a space
abbrev pub namespace_at : List Namespace → Space → Namespace
namespace_at spaces k = slice_index_or spaces (space_number k) no_names

-- this is kept of a space instead
abbrev pub namespace_set : List Namespace → Space → Namespace → List Namespace
namespace_set spaces k new = slice_set spaces (space_number k) new

-- ---- a builder

-- what a builder has: its sections, and its index spaces by their numbers
pub record Content : Type 0 where
  pub sections : SectionsState
  pub spaces : List Namespace

-- the spaces, where these indices are taken in one of them
abbrev pub spaces_with : List Namespace → Option Indices → Option (List ℕ) → List Namespace
spaces_with spaces None name = spaces
spaces_with spaces (Some d) name =
    namespace_set spaces d.space (namespace_with (namespace_at spaces d.space) d.number name)

-- one more entry
abbrev pub with_entry : Content → Entry → Content
with_entry c e =
    record {
      sections = with_item c.sections e.item;
      spaces = spaces_with c.spaces (defines e.item) e.name;
    }

-- an item that is being written: its section's id, its text so far, its space, and that space with
-- it
pub record BegunItem : Type 0 where
  pub id : ℕ
  pub text : List ℕ
  pub space : Space
  pub after : Namespace

-- a builder: settled content, and the item that is being written, if there is one
pub record State : Type 0 where
  pub settled : Content
  pub begun : Option BegunItem

-- no item is being written
abbrev pub builder_is_finished : State → Bool
builder_is_finished s = is_none s.begun

-- a builder with this content, which writes no item
abbrev pub settled_in : Content → State
settled_in c = record { settled = c; begun = None }

-- what an accepted call does
abbrev pub step : State → Entry → State
step s e = settled_in (with_entry s.settled e)

-- ---- an item that is being written

-- this content, with an item or none
abbrev pub content_with : Content → Option BegunItem → Content
content_with c None = c
content_with c (Some b) = record {
  sections = entered c.sections b.id b.text;
  spaces = namespace_set c.spaces b.space b.after;
}

-- the content, as it is with that item
abbrev pub content_of : State → Content
content_of s = content_with s.settled s.begun

-- how many items a space has, the one that is being written with them
abbrev pub count_in : State → Space → ℕ
count_in s space = (namespace_at (content_of s).spaces space).count

-- what is to be written: an item of the section with this id, which takes one index in this space
pub record NewItem : Type 0 where
  pub id : ℕ
  pub space : Space
  pub name : Option (List ℕ)
  pub text : List ℕ

abbrev pub new_item : ℕ → Space → Option (List ℕ) → List ℕ → NewItem
new_item id space name text = record { id = id; space = space; name = name; text = text }

-- what is to be written, by the section itself
abbrev pub new_item_in : ComponentSectionId → Space → Option (List ℕ) → List ℕ → NewItem
new_item_in section space name text = new_item (section_number section) space name text

-- its index
abbrev pub new_item_indices : NewItem → Indices
new_item_indices d = record { space = d.space; number = 1 }

-- its space, as it is with it
abbrev pub space_with : State → NewItem → Namespace
space_with s d = namespace_with (namespace_at s.settled.spaces d.space) 1 d.name

-- this item is begun: what is settled stays, and the item has the text of the new one
abbrev pub item_begun : State → NewItem → State
item_begun s d = record {
  settled = s.settled;
  begun = Some (record { id = d.id; text = d.text; space = d.space; after = space_with s d });
}

-- an item with these bytes after its text; where there is none, it stays so
abbrev pub begun_appended : Option BegunItem → List ℕ → Option BegunItem
begun_appended None text = None
begun_appended (Some b) text =
    Some (record { id = b.id; text = b.text ++ text; space = b.space; after = b.after })

-- the item that is being written, with these bytes after its text
abbrev pub item_appended : State → List ℕ → State
item_appended s text = record { settled = s.settled; begun = begun_appended s.begun text }

-- that item is ended: it is settled
abbrev pub item_ended : State → State
item_ended s = settled_in (content_of s)

-- that item is given up: what was settled before it stays
abbrev pub item_given_up : State → State
item_given_up s = settled_in s.settled
