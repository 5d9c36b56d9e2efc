-- What a function that reads returns, by the reader of the form.
use Rattle.std.specs.Prelude.{◌≡◌, ◌≤◌, ℕ, List, length, Result, Ok, Err}
use Rattle.wenc_base.specs.Readers.{Flaw, Bad, Deep}
use Rattle.wenc_read.specs.declared.refusal.NestedRefusal.{NestedRefusal}
use Rattle.wenc_read.specs.declared.refusal.NestedRefusal.TheVariants.{Flat, TooDeep}
use Rattle.wenc_read.specs.declared.refusal.Refusal.{Refusal}

-- Why nothing is read, without the place and what is expected there.
abbrev pub flaw_of : NestedRefusal → Flaw
flaw_of (Flat refusal) = Bad
flaw_of (TooDeep left) = Deep

-- What was returned, seen by view, is what the reader finds.
abbrev pub Gives : {X A : Type 0} → (X → A) → Result X Refusal → Result A Flaw → Type 0
Gives view (Ok x) found = found ≡ Ok (view x)
Gives view (Err refusal) found = found ≡ Err Bad

-- The place of an error is in the bytes or at their end, and so is what follows a value.
abbrev pub IsWithin : {X : Type 0} → (X → List ℕ) → List ℕ → Result X Refusal → Type 0
IsWithin rest bytes (Ok x) = length (rest x) ≤ length bytes
IsWithin rest bytes (Err refusal) = refusal.left ≤ length bytes

-- the number of bytes from the place of an error on
abbrev pub left_of : NestedRefusal → ℕ
left_of (Flat refusal) = refusal.left
left_of (TooDeep left) = left

-- the same of a form that may nest
abbrev pub IsWithinNested : {X : Type 0} → (X → List ℕ) → List ℕ → Result X NestedRefusal
    → Type 0
IsWithinNested rest bytes (Ok x) = length (rest x) ≤ length bytes
IsWithinNested rest bytes (Err refusal) = left_of refusal ≤ length bytes
