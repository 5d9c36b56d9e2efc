-- The content of counted sections and types: the number of members, and their texts.
use Rattle.std.specs.Prelude.{◌≡◌, ℕ, ◌+◌, ◌<◌, ◌≤◌, ◌^◌, ◌⊎◌, Bool, true, false, is_none, List, []}
use Rattle.std.specs.Prelude.{◌++◌, length, take, drop, Option, None, Result, Err, OnOk}
use Rattle.std.specs.Prelude.{OnErr, IfErr}
use Rattle.std.specs.Iterator.Runs.{SomeRun, WholeRun}
use Rattle.std.specs.List.{flat_map, AllByRecursion}
use Rattle.wenc_base.specs.Number.{unsigned_text, number_size, u32}
use Rattle.wenc_base.specs.Fault.{IsWarranted, NoCause}
use Rattle.wenc_base.specs.Forms.{list}
use Rattle.wenc_base.specs.Piece.{Piece, Form, only_where, refused_for, verbatim, ◌⨾◌}
use Rattle.wenc_base.specs.declared.fault.Fault.{Fault}
use Rattle.wenc_base.specs.declared.fault.Fault.TheVariants.{Memory, TooMany, TooLarge, Unfinished}
use Rattle.wenc_base.specs.declared.holder.openings.Opening.{Opening}

-- A holder in contracts: the bytes that it keeps in front, which are not its own, the number of its
-- members, their texts, and, while one is being written, where that begins.
pub record HolderState : Type 0 where
  pub kept : List ℕ
  pub count : ℕ
  pub body : List ℕ
  pub opening : Option Opening

-- no member is being written
abbrev pub is_finished : HolderState → Bool
is_finished h = is_none h.opening

-- finished, with these bytes
abbrev pub holding : List ℕ → ℕ → List ℕ → HolderState
holding kept count body = record { kept = kept; count = count; body = body; opening = None }

-- a holder without members
abbrev pub no_members : HolderState
no_members = holding [] 0 []

-- one member more, with this text
abbrev pub with_member : HolderState → List ℕ → HolderState
with_member h text =
    record { kept = h.kept; count = h.count + 1; body = h.body ++ text; opening = h.opening }

-- the first members, whose texts are the first bytes
abbrev pub cut_to : HolderState → ℕ → ℕ → HolderState
cut_to h count size =
    record { kept = h.kept; count = count; body = take size h.body; opening = h.opening }

-- the kept bytes, then those of the members
abbrev pub all_bytes : HolderState → List ℕ
all_bytes h = h.kept ++ h.body

-- these members after other bytes
abbrev pub with_kept : HolderState → List ℕ → HolderState
with_kept h kept = record { kept = kept; count = h.count; body = h.body; opening = h.opening }

-- the first of all bytes, of which some are kept, and the rest are the texts of this many members
abbrev pub gone_back : HolderState → ℕ → ℕ → ℕ → HolderState
gone_back h kept len count =
    holding (take kept (all_bytes h)) count (drop kept (take len (all_bytes h)))

-- these bytes in the place of those from start to end
abbrev pub filled : List ℕ → ℕ → ℕ → List ℕ → List ℕ
filled bytes start end head = take start bytes ++ (head ++ drop end bytes)

-- It has just these members, each with its text, and they can be encoded.
pub record Contains {A : Type 0} (form : Form A) (h : HolderState) (members : List A) : Type 0 where
  pub finished : is_finished h ≡ true
  pub count : length members ≡ h.count
  pub body : h.body ≡ flat_map (λ v. (form v).text) members
  pub fit : AllByRecursion (λ v. (form v).Fits) members

-- It has some members, each of which is such a text.
pub record ContainsSome (IsMember : List ℕ → Type 0) (h : HolderState) : Type 0 where
  pub members : List (List ℕ)
  pub contained : Contains verbatim h members
  pub each : AllByRecursion IsMember members

-- how many bytes follow a section's size: those of the count, and those of the members
abbrev pub content_size : ℕ → ℕ → ℕ
content_size count body = number_size count + body

-- how many members, then the members
abbrev pub held_text : HolderState → List ℕ
held_text h = unsigned_text h.count ++ h.body

-- a counted section: the size, the number of members, the members (component model, binary format,
-- `vec`)
abbrev pub section_text : HolderState → List ℕ
section_text h = unsigned_text (content_size h.count (length h.body)) ++ held_text h

-- why a section can't be written: it isn't finished
abbrev pub EncodeCause : HolderState → Fault → Type 0
EncodeCause h fault = (fault ≡ Unfinished) × (is_finished h ≡ false)

-- ---- adding a member

-- Why one more member can't be counted, with which all texts have this many bytes.
abbrev pub OneMoreCause : ℕ → ℕ → Fault → Type 0
OneMoreCause count size (Memory e) = ⊥
OneMoreCause count size TooMany = 2 ^ 32 ≤ count + 1
OneMoreCause count size TooLarge = 2 ^ 32 ≤ content_size (count + 1) size
OneMoreCause count size Unfinished = ⊥

-- Why a member with this text can't be added: for its own cause, for number or size, or because one
-- is being written.
abbrev pub AddCause : HolderState → List ℕ → (Fault → Type 0) → Fault → Type 0
AddCause h text cause fault =
    cause fault ⊎
    (OneMoreCause h.count (length (h.body ++ text)) fault ⊎
    ((fault ≡ Unfinished) × (is_finished h ≡ false)))

-- This piece was added as a member, fits, and has no cause.
pub record Accepted (p : Piece) (old new : HolderState) : Type 0 where
  pub state : new ≡ with_member old p.text
  pub fits : p.Fits
  pub free : NoCause (AddCause old p.text p.Cause)

-- A call adds this piece as a member, or is refused for a cause and changes nothing.
pub record AddsMember (p : Piece) (old new : HolderState)
    (outcome : Result (Unit {0}) Fault) : Type 0 where
  pub ok : OnOk outcome (Accepted p old new)
  pub err : OnErr outcome (new ≡ old)
  pub warranted : IfErr outcome (IsWarranted (AddCause old p.text p.Cause))
  pub unfinished_first : is_finished old ≡ false → outcome ≡ Err Unfinished

-- A call adds a piece of the values that an iterator gives as a member, or is refused for a cause
-- and changes nothing.
pub record AddsListed {S B : Type 0} (steps : S → Option B → S → Type 0) (values : S)
    (piece : List B → Piece) (old new : HolderState)
    (outcome : Result (Unit {0}) Fault) : Type 0 where
  pub ok : OnOk outcome
      (WholeRun steps values (λ run. Accepted (piece run.items) old new))
  pub err : OnErr outcome (new ≡ old)
  pub warranted : IfErr outcome
      (λ fault. SomeRun steps values (λ run.
      IsWarranted (AddCause old (piece run.items).text (piece run.items).Cause) fault))
  pub unfinished_first : is_finished old ≡ false → outcome ≡ Err Unfinished

-- a piece, a list of values, another piece
abbrev pub listed : {A : Type 0} → Piece → Form A → Piece → Form (List A)
listed lead form tail vs = lead ⨾ list form vs ⨾ tail

-- how many members, then the members, which are taken as they are
abbrev pub held_members : HolderState → Piece
held_members h = refused_for (EncodeCause h) (u32 h.count ⨾ verbatim h.body)

-- the section of the members, which are taken as they are; their number and its size have 32 bits
abbrev pub held_section : HolderState → Piece
held_section h = refused_for (EncodeCause h) (only_where
    ((h.count < 2 ^ 32) × (content_size h.count (length h.body) < 2 ^ 32))
    (verbatim (section_text h)))
