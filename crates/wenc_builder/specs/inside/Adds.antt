-- What private calls of a builder do.
use Rattle.std.specs.Prelude.{ℕ, List, Option, Some, None, Result, OnOk, OnErr}
use Rattle.std.specs.Iterator.Runs.{SomeRun, WholeRun}
use Rattle.wenc_base.specs.Piece.{Piece}
use Rattle.wenc_base.specs.declared.fault.Fault.{Fault}
use Rattle.wenc_builder.specs.Adds.{AddsPiece, AddsPieceAt, AddsWholeItem}
use Rattle.wenc_builder.specs.Builder.{State, settled_in, Content, with_section, spaces_with}
use Rattle.wenc_builder.specs.Builder.{NewItem}
use Rattle.wenc_builder.specs.ParentState.{IsItemText}
use Rattle.wenc_builder.specs.Space.{Indices}

-- this content with a section of its own, its indices, and its name or none
abbrev pub content_with_section : Content → Option Indices → Option (List ℕ) → List ℕ → Content
content_with_section c indices name text =
    record { sections = with_section c.sections text; spaces = spaces_with c.spaces indices name }

-- If it fits, this piece is such an item.
abbrev pub IsItemPiece : Option ℕ → Option Indices → Piece → Type 0
IsItemPiece section indices p = p.Fits → ∥ IsItemText section indices p.text ∥₁

-- A call adds a section of its own, as `AddsPieceAt` says.
abbrev pub AddsSection : State → State → Result ℕ Fault → Indices → Option (List ℕ) → Piece → Type 0
AddsSection old new result d name p =
    AddsPieceAt old new (settled_in (content_with_section old.settled (Some d) name p.text)) result
    (content_with_section old.settled (Some d) name p.text) d p

-- A call adds a section of its own that has no index.
abbrev pub AddsUnindexedSection : State → State → Result (Unit {0}) Fault → Piece → Type 0
AddsUnindexedSection old new result p =
    AddsPiece old new (settled_in (content_with_section old.settled None None p.text)) result
    (content_with_section old.settled None None p.text) None p (λ r. Unit {0})

-- A call adds an item that is made of the values that an iterator gives: of all of them, or of
-- those that came before it was refused.
pub record AddsListedItem {S B : Type 0} (steps : S → Option B → S → Type 0) (values : S)
    (old new : State) (result : Result ℕ Fault) (d : List ℕ → NewItem)
    (piece : List B → Piece) : Type 0 where
  pub ok : OnOk result
      (WholeRun steps values (λ run. AddsWholeItem old new result d (piece run.items)))
  pub refused : OnErr result
      (SomeRun steps values (λ run. AddsWholeItem old new result d (piece run.items)))
