-- What a table of first bytes finds, and where a reader stops.
use Rattle.std.proofs.Common.{◌≡◌, ℕ, List, [], ◌∷◌, Result, Ok, Err, refl}
use Rattle.wenc_base.specs.laws.Lawful.{same_Ok_pair, IsPast, pick_past}
use Rattle.wenc_base.specs.Readers.{Flaw, Bad, Reader, go_on, read_byte, pick, choose}

-- what stands after a first byte, by the row of that byte
pub at_first : {A : Type 0} (table : List (ℕ × Reader A)) (other : Reader A) (b first : ℕ)
    (bytes rest : List ℕ) → read_byte bytes ≡ Ok (first, rest) → first ≡ b
    → choose table other bytes ≡ pick table other b rest
unfolding choose
at_first table other b first bytes rest e d = rw (e, d) refl

-- where there is a first byte, it begins the bytes
pub first_there : (bytes rest : List ℕ) (b : ℕ) → read_byte bytes ≡ Ok (b, rest) → bytes ≡ b ∷ rest
first_there [] rest b e = absurd cc
first_there (c ∷ bytes) rest b e = let same = same_Ok_pair c b bytes rest e in rw (same.0, same.1)
    refl

-- where the first byte is in no row, the other reader has all of the bytes
pub past_rows : {A : Type 0} (table : List (ℕ × Reader A)) (other : Reader A) (b : ℕ)
    (bytes rest : List ℕ) → read_byte bytes ≡ Ok (b, rest) → IsPast table b
    → choose table other bytes ≡ other bytes
unfolding choose
past_rows table other b bytes rest e h = rw (first_there bytes rest b e)
    (pick_past table other b rest h)

-- what fails fails whatever is made of it
pub fails_on : {A B : Type 0} (flaw : Flaw) (found : Result (A × List ℕ) Flaw)
    (next : A → List ℕ → Result B Flaw) → found ≡ Err flaw → go_on found next ≡ Err flaw
fails_on flaw found next h = rw h refl

-- without a first byte no row is found
pub fails_first : {A : Type 0} (table : List (ℕ × Reader A)) (other : Reader A) (bytes : List ℕ)
    → read_byte bytes ≡ Err Bad → choose table other bytes ≡ Err Bad
unfolding choose
fails_first table other bytes h = rw h refl
