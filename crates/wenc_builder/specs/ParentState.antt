-- A builder as the parent of encoders.
use Rattle.std.specs.Prelude.{◌≡◌, ℕ, Bool, false, List, length, nat_eq, Option, Some, None}
use Rattle.wenc_base.specs.declared.fault.Fault.{Fault}
use Rattle.wenc_builder.specs.Builder.{BegunItem, State, content_of, item_appended}
use Rattle.wenc_builder.specs.Item.{Item, collected, item}
use Rattle.wenc_builder.specs.Cause.{NoRoom}
use Rattle.wenc_builder.specs.Space.{Indices, defines}

-- an item is being written of which there is nothing yet
abbrev pub item_is_opened : Option BegunItem → Bool
item_is_opened None = false
item_is_opened (Some b) = nat_eq (length b.text) 0

abbrev pub builder_is_opened : State → Bool
builder_is_opened s = item_is_opened s.begun

-- its section has no room for this many more bytes
abbrev pub no_room_in_section : State → List ℕ → Fault → Type 0
no_room_in_section s text = NoRoom (content_of (item_appended s text)).sections.current

-- These bytes are the text of an item that the section with this id collects, and that takes these
-- indices; or of one that is a section of its own.
pub record IsItemText (section : Option ℕ) (indices : Option Indices)
    (bytes : List ℕ) : Type 0 where
  pub value : Item
  pub collects : collected value ≡ section
  pub takes : defines value ≡ indices
  pub fits : (item value).Fits
  pub is : bytes ≡ (item value).text

-- what is being written is a whole item of its section, which takes one index in its space
abbrev pub IsWhole : Option BegunItem → Type 0
IsWhole None = ⊥
IsWhole (Some b) = IsItemText (Some b.id) (Some (record { space = b.space; number = 1 })) b.text

abbrev pub is_whole : State → Type 0
is_whole s = IsWhole s.begun
