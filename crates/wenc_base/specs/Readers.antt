-- Readers of bytes, and what ties them to a piece.
use Rattle.std.specs.Prelude.{◌≡◌, ◌≤◌, ℕ, zero, suc, List, [], ◌∷◌, ◌++◌, Result, Ok, Err}
use Rattle.std.specs.Prelude.{nat_eq, if◌then◌else◌}
use Rattle.wenc_base.specs.Fault.{NoCause}
use Rattle.wenc_base.specs.Piece.{Piece, Form, Spelling, Strict, EndsWith}
use Rattle.wenc_base.specs.declared.fault.Fault.TheVariants.{Unfinished}

-- Bad: nothing is spelled there. Deep: a type there nests too deep.
pub data Flaw : Type 0 where
  Bad : Flaw
  Deep : Flaw

-- A reader finds a value and what follows it, or the first flaw that is met.
abbrev pub Reader : Type 0 → Type 0
Reader A = List ℕ → Result (A × List ℕ) Flaw

-- What follows is made of what was found.
abbrev pub go_on : {A B : Type 0} → Result (A × List ℕ) Flaw → (A → List ℕ → Result B Flaw)
    → Result B Flaw
go_on (Ok x) next = next x.0 x.1
go_on (Err flaw) next = Err flaw

-- one after the other
infixl 10 ◌>>=◌
abbrev pub ◌>>=◌ : {A B : Type 0} → Reader A → (A → Reader B) → Reader B
(read >>= next) bytes = go_on (read bytes) next

-- a value of no byte
abbrev pub give : {A : Type 0} → A → Reader A
give v bytes = Ok (v, bytes)

-- no value, whatever the bytes are
abbrev pub nowhere : {A : Type 0} → Reader A
nowhere bytes = Err Bad

-- too deep, since no more types may open
abbrev pub too_deep : {A : Type 0} → Reader A
too_deep bytes = Err Deep

-- this many values
abbrev pub times : {A : Type 0} → Reader A → ℕ → Reader (List A)
times read zero = give []
times read (suc n) = read >>= λ v. times read n >>= λ vs. give (v ∷ vs)

-- the first byte
abbrev pub read_byte : Reader ℕ
read_byte [] = Err Bad
read_byte (b ∷ bytes) = Ok (b, bytes)

-- the row of the first byte, after it, or else the other reader, from that byte on
abbrev pub pick : {A : Type 0} → List (ℕ × Reader A) → Reader A → ℕ → Reader A
pick [] other b bytes = other (b ∷ bytes)
pick (row ∷ table) other b bytes = if nat_eq b row.0 then row.1 bytes else pick table other b bytes

-- A reader by the first byte. It stays shut, so that antt finds the table of a given reader.
unfoldable pub choose : {A : Type 0} → List (ℕ × Reader A) → Reader A → Reader A
choose table other bytes = go_on (read_byte bytes) (pick table other)

-- what was found, where no byte is left
abbrev pub all_read : {A : Type 0} → Result (A × List ℕ) Flaw → Result A Flaw
all_read (Ok (v, [])) = Ok v
all_read (Ok (v, b ∷ rest)) = Err Bad
all_read (Err flaw) = Err flaw

-- a value that all of the bytes spell
abbrev pub done : {A : Type 0} → Reader A → List ℕ → Result A Flaw
done read bytes = all_read (read bytes)

-- what is made of what was found
abbrev pub made : {A B : Type 0} → (A → B) → Result A Flaw → Result B Flaw
made make (Ok v) = Ok (make v)
made make (Err flaw) = Err flaw

-- A reader takes how deep it may call itself. It finds v wherever the piece is. What is read
-- widely may be shorter than the text, so that only what is read strictly is sure to fit.
pub record Lawful {A : Type 0} (p : Piece) (read : ℕ → Reader A) (v : A) : Type 0 where
  pub text_is_read : (mode : Spelling) (rest : List ℕ) → p.Fits
      → p.Reads mode (p.text ++ rest) rest
  pub strict_is_text : (bytes rest : List ℕ) → p.Reads Strict bytes rest → bytes ≡ p.text ++ rest
  pub fits : (bytes rest : List ℕ) → p.Reads Strict bytes rest → p.Fits
  pub leaves : (mode : Spelling) (bytes rest : List ℕ) → p.Reads mode bytes rest
      → EndsWith bytes rest
  pub free : p.Fits → NoCause p.Cause
  pub never : p.Cause Unfinished → ⊥
  pub depth : ℕ
  pub finds : (fuel : ℕ) → depth ≤ fuel → (mode : Spelling) (bytes rest : List ℕ)
      → p.Reads mode bytes rest → read fuel bytes ≡ Ok (v, rest)

-- Each value's piece is lawful, and the values share a reader.
abbrev pub LawfulForm : {A : Type 0} → Form A → (ℕ → Reader A) → Type 0
LawfulForm {A} form read = (v : A) → Lawful (form v) read v
