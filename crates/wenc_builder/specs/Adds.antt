-- What a call that adds an item or a section of its own does.
use Rattle.std.specs.Prelude.{◌≡◌, ℕ, List, Option, Some, false, Result, Err, OnOk, OnErr}
use Rattle.std.specs.Prelude.{IfOk, IfErr}
use Rattle.wenc_base.specs.Fault.{IsWarranted, NoCause}
use Rattle.wenc_base.specs.Piece.{Piece}
use Rattle.wenc_base.specs.declared.fault.Fault.{Fault}
use Rattle.wenc_base.specs.declared.fault.Fault.TheVariants.{Unfinished}
use Rattle.wenc_builder.specs.Builder.{State, Content, builder_is_finished, NewItem, item_begun}
use Rattle.wenc_builder.specs.Builder.{item_ended, content_of, namespace_at, new_item_indices}
use Rattle.wenc_builder.specs.Cause.{CallCause}
use Rattle.wenc_builder.specs.Space.{Indices}

-- A call that writes this piece takes these indices or none, which leaves `next` and would leave
-- this content when it is done, and returns this; or it fails for a cause and changes nothing.
pub record AddsPiece {R : Type 0} (old new next : State) (result : Result R Fault)
    (after : Content) (indices : Option Indices) (p : Piece) (Returned : R → Type 0) : Type 0 where
  pub returned : IfOk result Returned
  pub ok : OnOk result (new ≡ next)
  pub fits : OnOk result p.Fits
  pub free : OnOk result (NoCause (CallCause old p.Cause after indices))
  pub err : OnErr result (new ≡ old)
  pub warranted : IfErr result (IsWarranted (CallCause old p.Cause after indices))
  pub unfinished_first : builder_is_finished old ≡ false → result ≡ Err Unfinished

-- A call takes these indices and returns the number of items that their space had.
abbrev pub AddsPieceAt : State → State → State → Result ℕ Fault → Content → Indices → Piece
    → Type 0
AddsPieceAt old new next result after d p =
    AddsPiece old new next result after (Some d) p
    (λ i. i ≡ (namespace_at old.settled.spaces d.space).count)

-- A call takes the index of a new item, and returns it.
abbrev pub AddsItem : State → State → State → Result ℕ Fault → NewItem → Piece → Type 0
AddsItem old new next result d p =
    AddsPieceAt old new next result (content_of (item_begun old d)) (new_item_indices d) p

-- A call takes the index of a new item, writes the item and ends it, and returns that index.
abbrev pub AddsWholeItem : State → State → Result ℕ Fault → (List ℕ → NewItem) → Piece → Type 0
AddsWholeItem old new result d p =
    AddsItem old new (item_ended (item_begun old (d p.text))) result (d p.text) p
