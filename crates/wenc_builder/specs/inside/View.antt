-- A builder's state, by those of its buffer and its spaces.
use Rattle.std.specs.Prelude.{Option, Some, None}
use Rattle.wenc_builder.specs.Builder.{BegunItem, State}
use Rattle.wenc_builder.specs.inside.HoldsSome.{HoldsSome}
use Rattle.wenc_builder.specs.inside.Layout.{Writing, Buffered}
use Rattle.wenc_builder.specs.inside.Spaces.{Taking, Spaced}

-- an item is being written in both, or in none
abbrev pub Agree : Option Writing → Option Taking → Type 0
Agree None None = Unit {0}
Agree None (Some t) = ⊥
Agree (Some w) None = ⊥
Agree (Some w) (Some t) = Unit {0}

abbrev pub begun_of : Option Writing → Option Taking → Option BegunItem
begun_of None t = None
begun_of (Some w) None = None
begun_of (Some w) (Some t) =
    Some (record { id = w.id; text = w.text; space = t.space; after = t.after })

abbrev pub builder_view : Buffered → Spaced → State
builder_view b s = record {
  settled = record { sections = b.settled; spaces = s.settled };
  begun = begun_of b.writing s.taking;
}

-- An item is being written in both or in none, and the builder holds some entries.
pub record IsBuilder (b : Buffered) (s : Spaced) : Type 0 where
  pub agree : Agree b.writing s.taking
  pub holds : HoldsSome (builder_view b s)
