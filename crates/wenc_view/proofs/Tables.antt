-- What a table of values that are a byte each finds.
use Rattle.std.proofs.Common.{◌≡◌, ℕ, List, [], ◌∷◌, ◌++◌, map, Some, None, Ok, Err, refl}
use Rattle.std.proofs.Common.{inl, inr, ap}
use Rattle.std.proofs.lemmas.Option.{same_Some}
use Rattle.wenc_base.specs.laws.Sound.{tested}
use Rattle.wenc_base.specs.Readers.{Bad, read_byte, Reader, ◌>>=◌, give, pick, choose}
use Rattle.wenc_read.specs.laws.Tables.{first_there}
use Rattle.wenc_view.specs.inside.Tables.{find}

-- a value that is in the table is read
pub found : {A T : Type 0} (byte_of : T → ℕ) (make : T → A) (ts : List T) (rows : List (ℕ × Reader A)) (other : Reader A) (b : ℕ) (t : T) (bytes : List ℕ)
    → find byte_of ts b ≡ Some t
    → pick (map (λ u. (byte_of u, give (make u))) ts ++ rows) other b bytes ≡ Ok (make t, bytes)
found byte_of make [] rows other b t bytes e = absurd cc
found byte_of make (u ∷ ts) rows other b t bytes e =
    elim (tested b (byte_of u)) [
      | inl s ↦ rw (s.0, pick) (ap (λ (w : _). Ok (make w, bytes)) (same_Some u t (rw s.0 at e)))
      | inr s ↦ rw (s, pick) (found byte_of make ts rows other b t bytes (rw s at e))
    ]

-- where there is none, the other rows are tried
pub passed : {A T : Type 0} (byte_of : T → ℕ) (make : T → A) (ts : List T) (rows : List (ℕ × Reader A)) (other : Reader A) (b : ℕ) (bytes : List ℕ)
    → find byte_of ts b ≡ None
    → pick (map (λ u. (byte_of u, give (make u))) ts ++ rows) other b bytes ≡ pick rows other b bytes
passed byte_of make [] rows other b bytes e = refl
passed byte_of make (u ∷ ts) rows other b bytes e =
    elim (tested b (byte_of u)) [
      | inl s ↦ absurd (nothing (rw s.0 at e))
      | inr s ↦ rw (s, pick) (passed byte_of make ts rows other b bytes (rw s at e))
    ]
  where
    nothing : Some u ≡ None → ⊥
    nothing e = absurd cc

-- a table that begins with such rows, by the first byte
pub begins : {A T : Type 0} (byte_of : T → ℕ) (make : T → A) (ts : List T) (rows : List (ℕ × Reader A)) (other : Reader A) (b : ℕ) (t : T) (bytes rest : List ℕ)
    → read_byte bytes ≡ Ok (b, rest) → find byte_of ts b ≡ Some t
    → choose (map (λ u. (byte_of u, give (make u))) ts ++ rows) other bytes ≡ Ok (make t, rest)
unfolding choose
begins byte_of make ts rows other b t bytes rest first e = rw first (found byte_of make ts rows other b t rest e)

pub goes_past : {A T : Type 0} (byte_of : T → ℕ) (make : T → A) (ts : List T) (rows : List (ℕ × Reader A)) (other : Reader A) (b : ℕ) (bytes rest : List ℕ)
    → read_byte bytes ≡ Ok (b, rest) → find byte_of ts b ≡ None
    → choose (map (λ u. (byte_of u, give (make u))) ts ++ rows) other bytes ≡ pick rows other b rest
unfolding choose
goes_past byte_of make ts rows other b bytes rest first e = rw first (passed byte_of make ts rows other b rest e)

-- where no other rows follow, the other reader has all of the bytes
pub falls_through : {A T : Type 0} (byte_of : T → ℕ) (make : T → A) (ts : List T) (other : Reader A) (b : ℕ) (bytes rest : List ℕ)
    → read_byte bytes ≡ Ok (b, rest) → find byte_of ts b ≡ None
    → choose (map (λ u. (byte_of u, give (make u))) ts ++ []) other bytes ≡ other bytes
unfolding choose
falls_through byte_of make ts other b bytes rest first e = rw (first_there bytes rest b first) (passed byte_of make ts [] other b rest e)

-- what is made of what is read
pub made_of : {A B : Type 0} (make : A → B) (read : Reader A) (v : A) (bytes rest : List ℕ) → read bytes ≡ Ok (v, rest)
    → (read >>= λ w. give (make w)) bytes ≡ Ok (make v, rest)
made_of make read v bytes rest e = rw e refl

pub made_of_both : {A B C : Type 0} (make : A → B → C) (read : Reader A) (other : Reader B) (v : A) (w : B) (bytes middle rest : List ℕ)
    → read bytes ≡ Ok (v, middle) → other middle ≡ Ok (w, rest)
    → (read >>= λ x. other >>= λ y. give (make x y)) bytes ≡ Ok (make v w, rest)
made_of_both make read other v w bytes middle rest e d = rw (e, d) refl

pub made_of_three : {A B C D : Type 0} (make : A → B → C → D) (read : Reader A) (other : Reader B) (third : Reader C) (v : A) (w : B) (x : C)
    (bytes middle behind rest : List ℕ) → read bytes ≡ Ok (v, middle) → other middle ≡ Ok (w, behind) → third behind ≡ Ok (x, rest)
    → (read >>= λ a. other >>= λ b. third >>= λ c. give (make a b c)) bytes ≡ Ok (make v w x, rest)
made_of_three make read other third v w x bytes middle behind rest e d f = rw (e, d, f) refl

pub bad_first : {A : Type 0} (table : List (ℕ × Reader A)) (other : Reader A) (bytes : List ℕ) → read_byte bytes ≡ Err Bad → choose table other bytes ≡ Err Bad
unfolding choose
bad_first table other bytes e = rw e refl
