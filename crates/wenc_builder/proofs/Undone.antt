-- A space in which an item took an index can return to what it was.
use Rattle.std.proofs.Common.{◌≡◌, ℕ, ◌≤◌, List, length, length-append, true, is_none, get_or, Option, Some, None, refl, arith, ◌∙◌}
use Rattle.std.proofs.lemmas.List.{take_at, take_all, get_or-set_same, get_or_default, set-set, set-get_or}
use Rattle.wenc_base.specs.Prelude.{name_association}
use Rattle.wenc_builder.specs.Prelude.{Agree, Buffered, IsOf, Namespace, Undo, Writing}
use Rattle.wenc_builder.specs.Prelude.{namespace_at, namespace_with, no_names, some_in, spaced}
use Rattle.wenc_builder.specs.Prelude.{spaces_begun, spaces_ended, spaces_with, taken, undo_at}
use Rattle.wenc_builder.specs.Prelude.{undone}
use Rattle.wenc_builder.specs.inside.Spaces.{before}
use Rattle.wenc_sections.specs.Prelude.{space_number}
use Rattle.wenc_sections.specs.declared.space.Space.{Space}
use Rattle.wenc_sections.specs.laws.Space.{space_within}

before_with : (i : Space) (n : ℕ) (s : Namespace) (name : Option (List ℕ)) → before (undo_at i s) (namespace_with s n name).names ≡ s
before_with i n s None = rw (take_all (length s.names) s.names (omega arith)) refl
before_with i n s (Some name) = rw (take_at s.names (name_association (record { index = s.count; name = name })).text (length s.names) refl) refl

-- a space has no less than it had
no_less : (n : ℕ) (s : Namespace) (name : Option (List ℕ)) → (s.named ≤ (namespace_with s n name).named)
    × (length s.names ≤ length (namespace_with s n name).names)
no_less n s None = (omega arith, omega arith)
no_less n s (Some name) = (omega arith, omega (arith, length-append s.names (name_association (record { index = s.count; name = name })).text))

module _ (spaces : List Namespace) (i : Space) (n : ℕ) (name : Option (List ℕ)) (all : length spaces ≡ 13) where
  abbrev with_indices : List Namespace
  with_indices = spaces_with spaces (some_in i n) name

  abbrev undo : Undo
  undo = undo_at i (namespace_at spaces i)

  with_is : namespace_at with_indices i ≡ namespace_with (namespace_at spaces i) n name
  with_is = get_or-set_same spaces (space_number i) (namespace_with (namespace_at spaces i) n name) no_names (omega (arith, all, space_within i))

  pub is_of : IsOf with_indices undo
  is_of = rw with_is (no_less n (namespace_at spaces i) name)

  pub undone_is : undone with_indices undo ≡ spaces
  undone_is = rw (
    with_is,
    before_with i n (namespace_at spaces i) name,
    set-set spaces (space_number i) (namespace_with (namespace_at spaces i) n name) (namespace_at spaces i),
  )
      (set-get_or spaces (space_number i) no_names)

  pub taken_with : spaced with_indices (Some undo) ≡ spaces_begun (spaced spaces None) i n name
  taken_with = rw (undone_is, with_is) refl

-- the spaces with the item that is being written
pub taken_is : (spaces : List Namespace) (undo : Option Undo) → taken (spaced spaces undo).settled (spaced spaces undo).taking ≡ spaces
taken_is spaces None = refl
taken_is spaces (Some u) = set-set spaces (space_number u.space) (before u (namespace_at spaces u.space).names)
    (namespace_at spaces u.space) ∙ set-get_or spaces (space_number u.space) no_names

pub ended_spaces : (spaces : List Namespace) (undo : Option Undo) → spaced spaces None ≡ spaces_ended (spaced spaces undo)
ended_spaces spaces undo = rw (taken_is spaces undo) refl

-- nothing can be undone where nothing is written
pub no_undo : (b : Buffered) (spaces : List Namespace) (undo : Option Undo) → Agree b.writing (spaced spaces undo).taking
    → is_none b.writing ≡ true → undo ≡ None
no_undo b spaces None a finished = refl
no_undo b spaces (Some u) a finished = absurd_at b.writing a finished
  where
    absurd_at : {T : Type 0} (w : Option Writing) → Agree w (spaced spaces (Some u)).taking → is_none w ≡ true → T
    absurd_at None a e = absurd a
    absurd_at (Some w) a e = cc

-- what is found of a space
pub found : (spaces : List Namespace) (k : Space) (d : Namespace) → length spaces ≡ 13 → get_or spaces (space_number k) d ≡ namespace_at spaces k
found spaces k d all = get_or_default spaces (space_number k) d no_names (omega (arith, all, space_within k))
