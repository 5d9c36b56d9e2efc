-- Where types of components and of instances are nested too deep.
use Rattle.std.specs.Prelude.{◌≡◌, ◌⊎◌, ℕ, zero, suc, ◌<◌, List, ◌∷◌, length}
use Rattle.wenc_base.specs.Number.{u32}
use Rattle.wenc_base.specs.Piece.{Form, Wide, each}
use Rattle.wenc_types.specs.ComponentTypes.{instance_declaration, component_declaration}

-- a count, fewer whole values than that, and then bytes of which P holds
pub record Front {A : Type 0} (form : Form A) (P : List ℕ → Type 0) (bytes : List ℕ) : Type 0 where
  pub count : ℕ
  pub middle : List ℕ
  pub counted : (u32 count).Reads Wide bytes middle
  pub before : List A
  pub left : List ℕ
  pub read : (each form before).Reads Wide middle left
  pub fewer : length before < count
  pub next : P left

-- this byte, and then bytes of which P holds
abbrev pub ByteThen : ℕ → (List ℕ → Type 0) → List ℕ → Type 0
ByteThen b P bytes = (rest : List ℕ) × (bytes ≡ b ∷ rest) × P rest

-- A type of a component or of an instance opens here, and then this many more inside one another,
-- each before anything that is no declaration.
abbrev pub OpensTypes : ℕ → List ℕ → Type 0
OpensTypes zero bytes =
    ByteThen 0x41 (λ rest. Unit {0}) bytes ⊎ ByteThen 0x42 (λ rest. Unit {0}) bytes
OpensTypes (suc more) bytes =
    ByteThen 0x41 (Front component_declaration (ByteThen 0x01 (OpensTypes more))) bytes
    ⊎ ByteThen 0x42 (Front instance_declaration (ByteThen 0x01 (OpensTypes more))) bytes
