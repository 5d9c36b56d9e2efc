-- Tables of a form that stand in a larger one's, where something is made of what they find.
use Rattle.std.proofs.Common.{◌≡◌, ℕ, List, [], ◌∷◌, ◌++◌, Result, Ok, Err, refl, subst, inl, inr}
use Rattle.std.proofs.lemmas.List.{append-nil}
use Rattle.wenc_base.specs.Readers.{Flaw, Bad, read_byte, Reader, ◌>>=◌, go_on, give, nowhere, pick}
use Rattle.wenc_base.specs.Readers.{choose}
use Rattle.wenc_base.specs.laws.Sound.{tested}

-- one reader makes something of what another finds
abbrev pub Follows : {A B : Type 0} → (A → B) → Reader A → Reader B → Type 0
Follows make read made = (bytes : List ℕ) → made bytes ≡ go_on (read bytes) (λ v. give (make v))

abbrev pub RowsFollow : {A B : Type 0} → (A → B) → List (ℕ × Reader A) → List (ℕ × Reader B) → Type 0
RowsFollow make [] [] = Unit {0}
RowsFollow make [] (m ∷ made) = ⊥
RowsFollow make (r ∷ rows) [] = ⊥
RowsFollow make (r ∷ rows) (m ∷ made) = (r.0 ≡ m.0) × (Follows make r.1 m.1 × RowsFollow make rows made)

pub gives_follow : {A B : Type 0} (make : A → B) (v : A) → Follows make (give v) (give (make v))
gives_follow make v bytes = refl

pub then_follows : {V A B : Type 0} (make : A → B) (read : Reader V) (next : V → Reader A) (made : V → Reader B) → ((v : V) → Follows make (next v) (made v))
    → Follows make (read >>= next) (read >>= made)
then_follows {V} make read next made h bytes = found (read bytes)
  where
    found : (some : Result (V × List ℕ) Flaw) → go_on some made ≡ go_on (go_on some next) (λ v. give (make v))
    found (Err flaw) = refl
    found (Ok x) = h x.0 x.1

-- what is made of what is read
pub last_follows : {V A B : Type 0} (make : A → B) (read : Reader V) (f : V → A) → Follows make (read >>= λ v. give (f v)) (read >>= λ v. give (make (f v)))
last_follows make read f = then_follows make read (λ v. give (f v)) (λ v. give (make (f v))) (λ v. gives_follow make (f v))

pub both_follow : {A B : Type 0} (make : A → B) (rows more : List (ℕ × Reader A)) (made others : List (ℕ × Reader B)) → RowsFollow make rows made
    → RowsFollow make more others → RowsFollow make (rows ++ more) (made ++ others)
both_follow make [] more [] others h k = k
both_follow make [] more (m ∷ made) others h k = absurd h
both_follow make (r ∷ rows) more [] others h k = absurd h
both_follow make (r ∷ rows) more (m ∷ made) others h k = (h.0, (h.1.0, both_follow make rows more made others h.1.1 k))

-- a first byte that has no row among those that follow the table
pub picks : {A B : Type 0} (make : A → B) (rows : List (ℕ × Reader A)) (made more : List (ℕ × Reader B)) → RowsFollow make rows made → (b : ℕ) (bytes : List ℕ)
    → pick more nowhere b bytes ≡ Err Bad
    → pick (made ++ more) nowhere b bytes ≡ go_on (pick rows nowhere b bytes) (λ v. give (make v))
picks make [] [] more h b bytes e = e
picks make [] (m ∷ made) more h b bytes e = absurd h
picks make (r ∷ rows) [] more h b bytes e = absurd h
picks make (r ∷ rows) (m ∷ made) more h b bytes e =
    elim (tested b m.0) [
      | inl s ↦ rw (h.0, s.0, pick) (h.1.0 bytes)
      | inr s ↦ rw (h.0, s, pick) (picks make rows made more h.1.1 b bytes e)
    ]

pub choices_follow : {A B : Type 0} (make : A → B) (rows : List (ℕ × Reader A)) (made : List (ℕ × Reader B)) → RowsFollow make rows made
    → Follows make (choose rows nowhere) (choose made nowhere)
unfolding choose
choices_follow make rows made h [] = refl
choices_follow make rows made h (b ∷ bytes) = nil (picks make rows made [] h b bytes refl)
  where
    nil : pick (made ++ []) nowhere b bytes ≡ go_on (pick rows nowhere b bytes) (λ v. give (make v))
        → pick made nowhere b bytes ≡ go_on (pick rows nowhere b bytes) (λ v. give (make v))
    nil e = subst (λ (ms : _). pick ms nowhere b bytes ≡ go_on (pick rows nowhere b bytes) (λ v. give (make v))) (append-nil made) e

-- where the other rows have none of the first byte, what the table finds is found
pub wraps : {A B : Type 0} (make : A → B) (rows : List (ℕ × Reader A)) (made more : List (ℕ × Reader B)) → RowsFollow make rows made
    → (b : ℕ) (bytes rest : List ℕ) → read_byte bytes ≡ Ok (b, rest) → pick more nowhere b rest ≡ Err Bad
    → choose (made ++ more) nowhere bytes ≡ go_on (choose rows nowhere bytes) (λ v. give (make v))
unfolding choose
wraps make rows made more h b bytes rest first e = rw first (picks make rows made more h b rest e)

-- what is found by a table alone
pub found_alone : {A : Type 0} (some : Result (A × List ℕ) Flaw) → go_on some (λ v. give v) ≡ some
found_alone (Err flaw) = refl
found_alone (Ok x) = refl
