-- Where the lists of a value are.
use Rattle.std.proofs.Common.{◌≡◌, ℕ, List, [], ◌∷◌, Result, Ok, Err}
use Rattle.std.specs.Prelude.{IfOk}
use Rattle.wenc_base.specs.Prelude.{EndsWith, Form, LawfulForm, Reader, Sound, Wide, ends_on}
use Rattle.wenc_base.specs.Prelude.{read_byte, read_u32, u32_lawful, u32_sound}
use Rattle.wenc_read.specs.laws.Exact.{exact_by}
use Rattle.wenc_read.specs.laws.Tables.{first_there}
use Rattle.wenc_view.specs.Members.{AreCounted, IsCounted, Place}

first_longer : (bytes middle : List ℕ) (p : Place) → EndsWith bytes middle → IsCounted middle p
    → IsCounted bytes p
first_longer bytes middle p e h = record {
  before = h.before;
  ends = ends_on bytes middle h.before e h.ends;
  begins = h.begins;
  all = h.all;
}

-- in more bytes before them
pub in_longer : (bytes middle : List ℕ) (ps : List Place) (rest : List ℕ) → EndsWith bytes middle
    → AreCounted middle ps rest → AreCounted bytes ps rest
in_longer bytes middle [] rest e h = tt
in_longer bytes middle (p ∷ []) rest e h = (first_longer bytes middle p e h.0, h.1)
in_longer bytes middle (p ∷ q ∷ ps) rest e h = (first_longer bytes middle p e h.0, h.1)

-- with fewer bytes behind them
pub in_shorter : (bytes : List ℕ) (ps : List Place) (middle rest : List ℕ) → EndsWith middle rest
    → AreCounted bytes ps middle → AreCounted bytes ps rest
in_shorter bytes [] middle rest e h = tt
in_shorter bytes (p ∷ []) middle rest e h = (h.0, ends_on p.behind middle rest h.1 e)
in_shorter bytes (p ∷ q ∷ ps) middle rest e h =
    (h.0, in_shorter p.behind (q ∷ ps) middle rest e h.1)

-- the rest behind what is read
pub leaves : {A : Type 0} {form : Form A} {read : Reader A} → Sound form read
    → LawfulForm form (λ fuel. read) → (v : A) (bytes rest : List ℕ) → read bytes ≡ Ok (v, rest)
    → EndsWith bytes rest
leaves s laws v bytes rest e =
    (laws v).leaves Wide bytes rest ((exact_by s laws bytes).given_is_read v rest e)

pub behind : {A : Type 0} {form : Form A} {read : Reader A} → Sound form read
    → LawfulForm form (λ fuel. read) → (v : A) (bytes middle : List ℕ) (ps : List Place)
    (rest : List ℕ) → read bytes ≡ Ok (v, middle) → AreCounted middle ps rest
    → AreCounted bytes ps rest
behind s laws v bytes middle ps rest e = in_longer bytes middle ps rest (leaves s laws v bytes middle e)

pub up_to : {A : Type 0} {form : Form A} {read : Reader A} → Sound form read
    → LawfulForm form (λ fuel. read) → (v : A) (bytes : List ℕ) (ps : List Place)
    (middle rest : List ℕ) → read middle ≡ Ok (v, rest) → AreCounted bytes ps middle
    → AreCounted bytes ps rest
up_to s laws v bytes ps middle rest e = in_shorter bytes ps middle rest (leaves s laws v middle rest e)

pub behind_byte : (b : ℕ) (bytes middle : List ℕ) (ps : List Place) (rest : List ℕ)
    → read_byte bytes ≡ Ok (b, middle) → AreCounted middle ps rest → AreCounted bytes ps rest
behind_byte b bytes middle ps rest e =
    in_longer bytes middle ps rest (b ∷ [], first_there bytes middle b e)

pub behind_number : (n : ℕ) (bytes middle : List ℕ) (ps : List Place) (rest : List ℕ)
    → read_u32 bytes ≡ Ok (n, middle) → AreCounted middle ps rest → AreCounted bytes ps rest
behind_number = behind u32_sound u32_lawful

pub up_to_number : (n : ℕ) (bytes : List ℕ) (ps : List Place) (middle rest : List ℕ)
    → read_u32 middle ≡ Ok (n, rest) → AreCounted bytes ps middle → AreCounted bytes ps rest
up_to_number = up_to u32_sound u32_lawful

-- the same of what a function returns
pub if_behind_byte : {X E : Type 0} (lists : X → List Place) (rest : X → List ℕ) (b : ℕ)
    (bytes middle : List ℕ) (r : Result X E) → read_byte bytes ≡ Ok (b, middle)
    → IfOk r (λ x. AreCounted middle (lists x) (rest x))
    → IfOk r (λ x. AreCounted bytes (lists x) (rest x))
if_behind_byte lists rest b bytes middle (Ok x) e h =
    behind_byte b bytes middle (lists x) (rest x) e h
if_behind_byte lists rest b bytes middle (Err f) e h = tt

-- two lists, one behind the other
pub two_counted : (bytes middle rest : List ℕ) (p q : Place) → AreCounted bytes (p ∷ []) middle
    → AreCounted middle (q ∷ []) rest → AreCounted bytes (p ∷ q ∷ []) rest
two_counted bytes middle rest p q h k = (h.0, in_longer p.behind middle (q ∷ []) rest h.1 k)
