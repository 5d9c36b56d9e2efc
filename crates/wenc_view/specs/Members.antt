-- Values that are read one after the other, as often as they are asked for.
use Rattle.std.specs.Prelude.{◌≡◌, ℕ, zero, suc, List, [], ◌∷◌, length, Option, Some, None}
use Rattle.std.specs.Prelude.{Result, Ok, Err}
use Rattle.wenc_base.specs.Piece.{EndsWith}
use Rattle.wenc_base.specs.Readers.{Flaw, Reader}
use Rattle.wenc_base.specs.reading.Numbers.{read_u32}
use Rattle.wenc_view.specs.declared.list_of.ListOf.{ListOf}

-- a value that was read, and those after it
abbrev pub and_more : {A : Type 0} → (List ℕ → List A) → Result (A × List ℕ) Flaw → List A
and_more more (Ok x) = x.0 ∷ more x.1
and_more more (Err flaw) = []

-- so many values, up to the first that isn't read
abbrev pub members_of : {A : Type 0} → Reader A → ℕ → List ℕ → List A
members_of read zero bytes = []
members_of read (suc n) bytes = and_more (members_of read n) (read bytes)

-- the bytes behind those that were read
abbrev pub and_rest : {A : Type 0} → (List ℕ → List ℕ) → List ℕ → Result (A × List ℕ) Flaw → List ℕ
and_rest rest bytes (Ok x) = rest x.1
and_rest rest bytes (Err flaw) = bytes

-- the bytes behind so many values
abbrev pub rest_of : {A : Type 0} → Reader A → ℕ → List ℕ → List ℕ
rest_of read zero bytes = bytes
rest_of read (suc n) bytes = and_rest (rest_of read n) bytes (read bytes)

-- the members that are left of a list
abbrev pub list_view : {T A : Type 0} → Reader A → ListOf T → List A
list_view read l = members_of read l.left l.bytes.now

-- Where a list is: how many members are left, by its count and by what is read, and the bytes from
-- the first of them on and behind the last one.
pub record Place : Type 0 where
  pub left : ℕ
  pub members : ℕ
  pub bytes : List ℕ
  pub behind : List ℕ

-- the place of so many values in these bytes
abbrev pub place_in : {A : Type 0} → Reader A → ℕ → List ℕ → Place
place_in read left bytes = record {
  left = left;
  members = length (members_of read left bytes);
  bytes = bytes;
  behind = rest_of read left bytes;
}

abbrev pub place_of : {T A : Type 0} → Reader A → ListOf T → Place
place_of read l = place_in read l.left l.bytes.now

-- The bytes end with the list's count and, behind it, the members: as many as it says.
pub record IsCounted (bytes : List ℕ) (p : Place) : Type 0 where
  pub before : List ℕ
  pub ends : EndsWith bytes before
  pub begins : read_u32 before ≡ Ok (p.left, p.bytes)
  pub all : p.left ≡ p.members

-- These lists are in the bytes, one behind the other, and the rest is behind them.
abbrev pub AreCounted : List ℕ → List Place → List ℕ → Type 0
AreCounted bytes [] rest = Unit {0}
AreCounted bytes (p ∷ []) rest = IsCounted bytes p × EndsWith p.behind rest
AreCounted bytes (p ∷ q ∷ ps) rest = IsCounted bytes p × AreCounted p.behind (q ∷ ps) rest

-- The first of them is given, and the others are left.
abbrev pub GivesFirst : {T A : Type 0} → (T → A) → List A → Option T → List A → Type 0
GivesFirst view before None after = before ≡ []
GivesFirst view before (Some x) after = before ≡ view x ∷ after
