-- Why a builder's call is refused.
use Rattle.std.specs.Prelude.{◌≡◌, ◌+◌, ◌≤◌, ◌^◌, ◌⊎◌, length, Option, Some, None, false}
use Rattle.wenc_base.specs.Number.{number_size}
use Rattle.wenc_base.specs.declared.fault.Fault.{Fault}
use Rattle.wenc_base.specs.declared.fault.Fault.TheVariants.{TooMany, TooLarge, Unfinished}
use Rattle.wenc_builder.specs.Item.{item}
use Rattle.wenc_builder.specs.Space.{Indices, defines}
use Rattle.wenc_sections.specs.declared.space.Space.{Space}
use Rattle.wenc_builder.specs.Entry.{Entry}
use Rattle.wenc_builder.specs.Builder.{OpenSection, Namespace, namespace_at, Content, with_entry}
use Rattle.wenc_builder.specs.Builder.{State, builder_is_finished, content_of}
use Rattle.wenc_builder.specs.Builder.{NewItem, new_item_indices, item_begun}

-- ---- too much of something

-- too many items, or too many bytes with those of their number
abbrev pub SectionCause : Option OpenSection → Fault → Type 0
SectionCause (Some o) TooMany = 2 ^ 32 ≤ o.count
SectionCause (Some o) TooLarge = 2 ^ 32 ≤ number_size o.count + length o.body
SectionCause current other = ⊥

-- The open section, as it would be, is too large.
abbrev pub NoRoom : Option OpenSection → Fault → Type 0
NoRoom current fault = (fault ≡ TooLarge) × SectionCause current TooLarge

-- too many items or names, or too many bytes of names with those of their number
abbrev pub SpaceCause : Namespace → Fault → Type 0
SpaceCause s TooMany = (2 ^ 32 ≤ s.count) ⊎ (2 ^ 32 ≤ s.named)
SpaceCause s TooLarge = 2 ^ 32 ≤ number_size s.named + length s.names
SpaceCause s other = ⊥

-- too much in the space of these indices
abbrev pub IndexCause : (Space → Namespace) → Option Indices → Fault → Type 0
IndexCause space None fault = ⊥
IndexCause space (Some d) fault = SpaceCause (space d.space) fault

-- Adding an item is refused: for its own cause, that of its space, or that of the open section.
abbrev pub AddingCause : (Fault → Type 0) → (Space → Namespace) → Option Indices
    → Option OpenSection → Fault → Type 0
AddingCause cause space indices current fault =
    cause fault ⊎ (IndexCause space indices fault ⊎ SectionCause current fault)

-- ---- calls

-- why a call that would leave this content is refused: it makes too much, or an item is being
-- written
abbrev pub CallCause : State → (Fault → Type 0) → Content → Option Indices → Fault → Type 0
CallCause old cause after indices fault =
    AddingCause cause (namespace_at after.spaces) indices after.sections.current fault
    ⊎ ((fault ≡ Unfinished) × (builder_is_finished old ≡ false))

-- why an item can't be begun as this
abbrev pub BeginCause : State → NewItem → Fault → Type 0
BeginCause old d =
    CallCause old (λ _. ⊥) (content_of (item_begun old d)) (Some (new_item_indices d))

-- why a call that adds this entry is refused
abbrev pub EnterCause : State → Entry → Fault → Type 0
EnterCause old x = CallCause old (item x.item).Cause (with_entry old.settled x) (defines x.item)
