-- The invariant of a builder.
use Rattle.std.specs.List.{AllByRecursion}
use Rattle.std.specs.Prelude.{◌≡◌, ℕ, List, Option, Some, None}
use Rattle.wenc_base.specs.Fault.{NoCause}
use Rattle.wenc_builder.specs.Builder.{namespace_at, namespace_with, entered, Content, BegunItem}
use Rattle.wenc_builder.specs.Builder.{State}
use Rattle.wenc_builder.specs.Builder.{settled_in}
use Rattle.wenc_builder.specs.Cause.{SectionCause}
use Rattle.wenc_builder.specs.Entry.{Entry, StartIsNameless}
use Rattle.wenc_builder.specs.Holds.{Holds}

-- an item that is being written takes one index more of its space, with a name or none
abbrev pub IsIndexed : Content → Option BegunItem → Type 0
IsIndexed c None = Unit {0}
IsIndexed c (Some b) =
    ∥ ((name : Option (List ℕ)) ×
    (b.after ≡ namespace_with (namespace_at c.spaces b.space) 1 name)) ∥₁

-- with the item that is being written, its section isn't too large
abbrev pub HasRoomFor : Content → Option BegunItem → Type 0
HasRoomFor c None = Unit {0}
HasRoomFor c (Some b) = NoCause (SectionCause (entered c.sections b.id b.text).current)

-- It holds some entries, of which no start has a name, but for an item that is being written.
pub record HoldsSome (s : State) : Type 0 where
  pub settled :
      ∥ ((es : List Entry) × Holds (settled_in s.settled) es × AllByRecursion StartIsNameless es) ∥₁
  pub indexed : IsIndexed s.settled s.begun
  pub room : HasRoomFor s.settled s.begun
