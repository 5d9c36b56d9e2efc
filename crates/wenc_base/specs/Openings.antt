-- A member that is written into a holder in several calls: its opening, what is added to it, and
-- its end.
use Rattle.std.specs.Prelude.{◌≡◌, ◌==◌, Bool, ℕ, ◌+◌, ◌-◌, ◌≤◌, ◌^◌, false, [], ◌++◌, List, length}
use Rattle.std.specs.Prelude.{take, drop, Option, Some, None, Result, Err, OnOk, OnErr, IfErr}
use Rattle.wenc_base.specs.Fault.{IsWarranted, NoCause}
use Rattle.wenc_base.specs.Piece.{Piece}
use Rattle.wenc_base.specs.Holder.{HolderState, is_finished, holding, content_size, AddCause}
use Rattle.wenc_base.specs.Holder.{ContainsSome}
use Rattle.wenc_base.specs.Parent.{Extends}
use Rattle.wenc_base.specs.declared.fault.Fault.{Fault}
use Rattle.wenc_base.specs.declared.fault.Fault.TheVariants.{TooLarge, Unfinished}
use Rattle.wenc_base.specs.declared.holder.openings.Opening.{Opening}

-- one member more, of which these bytes are written
abbrev pub member_begun : HolderState → List ℕ → HolderState
member_begun h lead = record {
  kept = h.kept;
  count = h.count + 1;
  body = h.body ++ lead;
  opening = Some (record { member_start = length h.body; lead_end = length (h.body ++ lead) });
}

-- more of that member
abbrev pub member_appended : HolderState → List ℕ → HolderState
member_appended h text =
    record { kept = h.kept; count = h.count; body = h.body ++ text; opening = h.opening }

-- the member is whole
abbrev pub member_ended : HolderState → HolderState
member_ended h = holding h.kept h.count h.body

-- as it was before that member
abbrev pub member_given_up_at : HolderState → Option Opening → HolderState
member_given_up_at h None = h
member_given_up_at h (Some o) = holding h.kept (h.count - 1) (take o.member_start h.body)

abbrev pub member_given_up : HolderState → HolderState
member_given_up h = member_given_up_at h h.opening

-- A member is being written, and nothing follows its lead.
abbrev pub is_opened_at : List ℕ → Option Opening → Bool
is_opened_at body None = false
is_opened_at body (Some o) = length body == o.lead_end

abbrev pub is_opened : HolderState → Bool
is_opened h = is_opened_at h.body h.opening

-- what is written of that member, its lead with it
abbrev pub member_text_at : List ℕ → Option Opening → List ℕ
member_text_at body None = []
member_text_at body (Some o) = drop o.member_start body

abbrev pub member_text : HolderState → List ℕ
member_text h = member_text_at h.body h.opening

-- a member that is being written is one of this many, and begins within this many bytes
abbrev pub OpeningStands : Option Opening → ℕ → ℕ → Type 0
OpeningStands None count size = Unit {0}
OpeningStands (Some o) count size = (o.member_start ≤ size) × (1 ≤ count)

-- Each member is such a text, but for one that is being written.
pub record HasMembers (IsMember : List ℕ → Type 0) (h : HolderState) : Type 0 where
  pub settled : ∥ ContainsSome IsMember (member_given_up h) ∥₁
  pub opening : OpeningStands h.opening h.count (length h.body)

-- A call opens a member with this lead, or is refused for a cause and changes nothing.
pub record BeginsMember (old new : HolderState) (outcome : Result (Unit {0}) Fault)
    (lead : List ℕ) : Type 0 where
  pub ok : OnOk outcome (new ≡ member_begun old lead)
  pub free : OnOk outcome (NoCause (AddCause old lead (λ _. ⊥)))
  pub err : OnErr outcome (new ≡ old)
  pub warranted : IfErr outcome (IsWarranted (AddCause old lead (λ _. ⊥)))
  pub unfinished_first : is_finished old ≡ false → outcome ≡ Err Unfinished

-- the members have no room for this many more bytes
abbrev pub no_room_in_holder : HolderState → List ℕ → Fault → Type 0
no_room_in_holder h text fault =
    (fault ≡ TooLarge) × (2 ^ 32 ≤ content_size h.count (length (h.body ++ text)))

-- A call adds this piece to a member and leaves it so, or is refused for a cause and changes
-- nothing.
abbrev pub AppendsToMember : HolderState → HolderState → HolderState → Result (Unit {0}) Fault
    → Piece → Type 0
AppendsToMember old new next outcome p =
    Extends old new next outcome p (no_room_in_holder old p.text)
