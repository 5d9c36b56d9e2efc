-- Why an encoding determines its value: a form, what is seen of a value, and what ties both to the
-- encoding.
use Rattle.std.specs.Prelude.{◌≡◌, ℕ, Bool, true}
use Rattle.wenc_base.specs.Encode.{Serves}
use Rattle.wenc_base.specs.Piece.{Form, ◌⨾◌}
use Rattle.wenc_base.specs.Readers.{Reader, LawfulForm}

-- one reader finds each value of the form where its piece is
abbrev pub IsReadable : {A : Type 0} → Form A → Type 0
IsReadable {A} form = (read : ℕ → Reader A) × LawfulForm form read

-- each value is written as the form writes what is seen of it
abbrev pub IsWritten : {A S : Type 0} → Form A → (A → S) → Form S → Type 0
IsWritten {A} piece seen form = (v : A) → Serves (piece v) (form (seen v))

-- What is seen of a value, as it is compared, independent of where it is stored: for a reference,
-- the value that it refers to. Its form can be read back, in one way only.
pub record ReadsBack (A : Type 0) : Type 1 where
  pub Seen : Type 0
  pub seen : A → Seen
  pub form : Form Seen
  pub readable : IsReadable form

-- values that are seen alike are equal
abbrev pub AlikeIsEqual : {A S : Type 0} → (A → A → Bool) → (A → S) → Type 0
AlikeIsEqual {A} eq seen = (a b : A) → seen a ≡ seen b → eq a b ≡ true

-- one value, then another
abbrev pub pair : {A B : Type 0} → Form A → Form B → Form (A × B)
pair one two p = one p.0 ⨾ two p.1
