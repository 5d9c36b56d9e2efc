-- Readers that find exactly what is read.
use Rattle.std.specs.Prelude.{◌≡◌, ℕ, List, Ok, Err}
use Rattle.wenc_base.specs.Piece.{Form, Wide}
use Rattle.wenc_base.specs.Readers.{Reader, Deep}

-- The reader finds a value, and what follows it, exactly where these bytes are read widely as that
-- value. Nothing is too deep.
pub record IsExactAt {A : Type 0} (form : Form A) (read : Reader A) (bytes : List ℕ) : Type 0 where
  pub given_is_read : (v : A) (rest : List ℕ) → read bytes ≡ Ok (v, rest)
      → (form v).Reads Wide bytes rest
  pub read_is_given : (v : A) (rest : List ℕ) → (form v).Reads Wide bytes rest
      → read bytes ≡ Ok (v, rest)
  pub never_deep : read bytes ≡ Err Deep → ⊥

-- The same holds for all bytes.
abbrev pub IsExact : {A : Type 0} → Form A → Reader A → Type 0
IsExact form read = (bytes : List ℕ) → IsExactAt form read bytes

-- A reader, and the form whose values it finds exactly.
pub record Reading (A : Type 0) : Type 1 where
  pub read : Reader A
  pub form : Form A
  pub exact : IsExact form read
