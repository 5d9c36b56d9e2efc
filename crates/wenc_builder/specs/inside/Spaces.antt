-- The index spaces with the item that is being written in one of them, and what that was before.
use Rattle.std.specs.Prelude.{◌≡◌, ℕ, List, [], ◌<◌, ◌≤◌, ◌^◌, length, take, replicate, Option}
use Rattle.std.specs.Prelude.{Some, None}
use Rattle.wenc_base.specs.Holder.{HolderState, holding, content_size}
use Rattle.wenc_builder.specs.Builder.{Namespace, no_names, namespace_at, namespace_set}
use Rattle.wenc_builder.specs.Builder.{namespace_with}
use Rattle.wenc_sections.specs.declared.space.Space.{Space}
use Rattle.wenc_builder.specs.declared.builder.spaces.Undo.{Undo}

-- the state of a space
abbrev pub space_view : ℕ → ℕ → List ℕ → Namespace
space_view count named names = record { count = count; named = named; names = names }

abbrev pub empty_spaces : List Namespace
empty_spaces = replicate 13 no_names

-- a map of names that is finished, and not too large
abbrev pub NamesFit : HolderState → Type 0
NamesFit h =
    (h ≡ holding [] h.count h.body) × (h.count < 2 ^ 32) ×
    (content_size h.count (length h.body) < 2 ^ 32)

-- ---- what a space was

-- what is kept of it to return to this state
abbrev pub undo_at : Space → Namespace → Undo
undo_at space s = record { space = space; count = s.count; named = s.named; len = length s.names }

-- a space has no less than it had
abbrev pub IsOf : List Namespace → Undo → Type 0
IsOf spaces u =
    (u.named ≤ (namespace_at spaces u.space).named) ×
    (u.len ≤ length (namespace_at spaces u.space).names)

abbrev pub CanUndo : List Namespace → Option Undo → Type 0
CanUndo spaces None = Unit {0}
CanUndo spaces (Some u) = IsOf spaces u

-- what it was, where it has these names now
abbrev pub before : Undo → List ℕ → Namespace
before u names = space_view u.count u.named (take u.len names)

abbrev pub undone : List Namespace → Undo → List Namespace
undone spaces u = namespace_set spaces u.space (before u (namespace_at spaces u.space).names)

-- ---- the spaces, seen from a builder

-- the space that an item is taking an index in, as it is with that item
pub record Taking : Type 0 where
  pub space : Space
  pub after : Namespace

-- settled spaces, and the one that an item is taking an index in
pub record Spaced : Type 0 where
  pub settled : List Namespace
  pub taking : Option Taking

abbrev pub spaced : List Namespace → Option Undo → Spaced
spaced spaces None = record { settled = spaces; taking = None }
spaced spaces (Some u) = record {
  settled = undone spaces u;
  taking = Some (record { space = u.space; after = namespace_at spaces u.space });
}

-- a space with this many more items, the first of them with this name or none
abbrev pub space_begun : Spaced → Space → ℕ → Option (List ℕ) → Namespace
space_begun s space number name = namespace_with (namespace_at s.settled space) number name

abbrev pub spaces_begun : Spaced → Space → ℕ → Option (List ℕ) → Spaced
spaces_begun s space number name = record {
  settled = s.settled;
  taking = Some (record { space = space; after = space_begun s space number name });
}

abbrev pub taken : List Namespace → Option Taking → List Namespace
taken spaces None = spaces
taken spaces (Some t) = namespace_set spaces t.space t.after

abbrev pub spaces_ended : Spaced → Spaced
spaces_ended s = record { settled = taken s.settled s.taking; taking = None }

abbrev pub spaces_given_up : Spaced → Spaced
spaces_given_up s = record { settled = s.settled; taking = None }
