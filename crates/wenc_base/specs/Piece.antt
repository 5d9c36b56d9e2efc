-- A piece of an encoding: its text, why it can't be encoded, and how it is read.
use Rattle.std.specs.List.{flat_map, AllByRecursion}
use Rattle.std.specs.Prelude.{◌≡◌, ℕ, ◌⊎◌, List, [], ◌∷◌, ◌++◌}
use Rattle.wenc_base.specs.declared.fault.Fault.{Fault}

-- Strict: only the text that is written. Wide: also the other spellings that are allowed.
pub data Spelling : Type 0 where
  Strict Wide : Spelling

-- The other spellings are read too.
abbrev pub IsWide : Spelling → Type 0
IsWide Strict = ⊥
IsWide Wide = Unit {0}

-- `Fits`: it has a text. `Cause`: why it can't be encoded. `Reads mode bytes rest`: the bytes begin
-- with a spelling of it, and rest remains.
pub record Piece : Type 1 where
  pub Fits : Type 0
  pub Cause : Fault → Type 0
  pub text : List ℕ
  pub Reads : Spelling → List ℕ → List ℕ → Type 0

-- the values of a type, each with its piece
abbrev pub Form : Type 0 → Type 1
Form A = A → Piece

-- ---- pieces

-- these bytes, whatever they are
abbrev pub verbatim : List ℕ → Piece
verbatim bs = record {
  Fits = Unit {0};
  Cause = λ fault. ⊥;
  text = bs;
  Reads = λ mode bytes rest. bytes ≡ bs ++ rest;
}

-- no byte at all
abbrev pub nothing : Piece
nothing = verbatim []

-- this byte
abbrev pub byte : ℕ → Piece
byte b = verbatim (b ∷ [])

-- these bytes, of which P holds
abbrev pub raw : (List ℕ → Type 0) → List ℕ → Piece
raw P bs = record (verbatim bs) {
  Fits = P bs;
  Reads = λ mode bytes rest. P bs × (bytes ≡ bs ++ rest);
}

-- a byte that says what comes, then that
infixr 60 ◌▸◌
abbrev pub ◌▸◌ : ℕ → Piece → Piece
b ▸ p = record p {
  text = b ∷ p.text;
  Reads = λ mode bytes rest. (middle : List ℕ) × (bytes ≡ b ∷ middle) × p.Reads mode middle rest;
}

-- bytes that say what comes, then that
abbrev pub behind_bytes : List ℕ → Piece → Piece
behind_bytes [] p = p
behind_bytes (b ∷ bs) p = b ▸ behind_bytes bs p

-- a piece that is read widely in another piece's spelling too
abbrev pub or_widely : Piece → Piece → Piece
or_widely p q = record p {
  Reads = λ mode bytes rest. p.Reads mode bytes rest ⊎ (IsWide mode × q.Reads mode bytes rest);
}

-- one piece, then another
infixr 60 ◌⨾◌
abbrev pub ◌⨾◌ : Piece → Piece → Piece
p ⨾ q = record {
  Fits = p.Fits × q.Fits;
  Cause = λ fault. p.Cause fault ⊎ q.Cause fault;
  text = p.text ++ q.text;
  Reads = λ mode bytes rest. (middle : List ℕ) × p.Reads mode bytes middle ×
      q.Reads mode middle rest;
}

-- a piece that is allowed where a fact holds
abbrev pub only_where : Type 0 → Piece → Piece
only_where P p = record p {
  Fits = P × p.Fits;
  Reads = λ mode bytes rest. P × p.Reads mode bytes rest;
}

-- the piece, refused for this
abbrev pub refused_for : (Fault → Type 0) → Piece → Piece
refused_for cause p = record p { Cause = cause }

-- The bytes end with these.
abbrev pub EndsWith : List ℕ → List ℕ → Type 0
EndsWith bytes rest = (front : List ℕ) × (bytes ≡ front ++ rest)

-- what is read for each value, one after the other
abbrev pub ReadsEach : {A : Type 0} → (A → List ℕ → List ℕ → Type 0) → List A → List ℕ → List ℕ
    → Type 0
ReadsEach Reads [] bytes rest = bytes ≡ rest
ReadsEach Reads (v ∷ vs) bytes rest =
    (middle : List ℕ) × Reads v bytes middle × ReadsEach Reads vs middle rest

-- the cause of one of the values
abbrev pub AnyCause : {A : Type 0} → (A → Fault → Type 0) → List A → Fault → Type 0
AnyCause cause [] fault = ⊥
AnyCause cause (v ∷ vs) fault = cause v fault ⊎ AnyCause cause vs fault

-- a piece for each value, one after the other
abbrev pub each : {A : Type 0} → Form A → Form (List A)
each form vs = record {
  Fits = AllByRecursion (λ v. (form v).Fits) vs;
  Cause = AnyCause (λ v. (form v).Cause) vs;
  text = flat_map (λ v. (form v).text) vs;
  Reads = λ mode. ReadsEach (λ v. (form v).Reads mode) vs;
}

-- ---- texts

-- These bytes have this form: they are the text of a value that has one.
pub record HasForm {A : Type 0} (form : Form A) (bytes : List ℕ) : Type 0 where
  pub value : A
  pub fits : (form value).Fits
  pub is : bytes ≡ (form value).text
