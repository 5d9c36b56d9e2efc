-- What the members of a list are.
use Rattle.std.proofs.Common.{◌≡◌, ◌≢◌, ℕ, zero, suc, ◌-◌, List, [], ◌∷◌, Result, Ok, Err, refl}
use Rattle.std.proofs.Common.{length, ap, arith}
use Rattle.wenc_base.specs.Prelude.{Bad, Flaw, Reader, give, go_on, read_u32, same_Ok_pair, times}
use Rattle.wenc_base.specs.Prelude.{◌>>=◌}
use Rattle.wenc_view.specs.Members.{AreCounted, and_more, and_rest, members_of, place_in, rest_of}

-- where all of them are read, these are the members
pub members_are : {A : Type 0} (read : Reader A) (n : ℕ) (bytes : List ℕ) (vs : List A)
    (rest : List ℕ) → times read n bytes ≡ Ok (vs, rest) → members_of read n bytes ≡ vs
members_are read zero bytes vs rest e = (same_Ok_pair [] vs bytes rest e).0
members_are {A} read (suc n) bytes vs rest e = first (read bytes) e (λ x. members_are read n x)
  where
    behind : (v : A) (middle : List ℕ) (found : Result (List A × List ℕ) Flaw)
        → times read n middle ≡ found → go_on found (λ ws. give (v ∷ ws)) ≡ Ok (vs, rest)
        → ((ws : List A) (left : List ℕ) → times read n middle ≡ Ok (ws, left)
        → members_of read n middle ≡ ws) → v ∷ members_of read n middle ≡ vs
    behind v middle (Err flaw) e h are = absurd cc
    behind v middle (Ok x) e h are = rw (are x.0 x.1 e) (same_Ok_pair (v ∷ x.0) vs x.1 rest h).0

    first : (found : Result (A × List ℕ) Flaw)
        → go_on found (λ v. times read n >>= λ ws. give (v ∷ ws)) ≡ Ok (vs, rest)
        → ((middle : List ℕ) (ws : List A) (left : List ℕ) → times read n middle ≡ Ok (ws, left)
        → members_of read n middle ≡ ws) → and_more (members_of read n) found ≡ vs
    first (Err flaw) h are = absurd cc
    first (Ok x) h are = behind x.0 x.1 (times read n x.1) refl h (are x.1)

-- as many are read as are to be
pub are_counted : {A : Type 0} (read : Reader A) (n : ℕ) (bytes : List ℕ) (vs : List A)
    (rest : List ℕ) → times read n bytes ≡ Ok (vs, rest) → n ≡ length vs
are_counted read zero bytes vs rest e = rw (← (same_Ok_pair [] vs bytes rest e).0) refl
are_counted {A} read (suc n) bytes vs rest e = first (read bytes) e (λ x. are_counted read n x)
  where
    behind : (v : A) (middle : List ℕ) (found : Result (List A × List ℕ) Flaw)
        → times read n middle ≡ found → go_on found (λ ws. give (v ∷ ws)) ≡ Ok (vs, rest)
        → ((ws : List A) (left : List ℕ) → times read n middle ≡ Ok (ws, left) → n ≡ length ws)
        → suc n ≡ length vs
    behind v middle (Err flaw) e h are = absurd cc
    behind v middle (Ok x) e h are =
        rw (← (same_Ok_pair (v ∷ x.0) vs x.1 rest h).0) (ap suc (are x.0 x.1 e))

    first : (found : Result (A × List ℕ) Flaw)
        → go_on found (λ v. times read n >>= λ ws. give (v ∷ ws)) ≡ Ok (vs, rest)
        → ((middle : List ℕ) (ws : List A) (left : List ℕ) → times read n middle ≡ Ok (ws, left)
        → n ≡ length ws) → suc n ≡ length vs
    first (Err flaw) h are = absurd cc
    first (Ok x) h are = behind x.0 x.1 (times read n x.1) refl h (are x.1)

-- and this is the rest
pub rest_is : {A : Type 0} (read : Reader A) (n : ℕ) (bytes : List ℕ) (vs : List A)
    (rest : List ℕ) → times read n bytes ≡ Ok (vs, rest) → rest_of read n bytes ≡ rest
rest_is read zero bytes vs rest e = (same_Ok_pair [] vs bytes rest e).1
rest_is {A} read (suc n) bytes vs rest e = first (read bytes) e (λ x. rest_is read n x)
  where
    behind : (v : A) (middle : List ℕ) (found : Result (List A × List ℕ) Flaw)
        → times read n middle ≡ found → go_on found (λ ws. give (v ∷ ws)) ≡ Ok (vs, rest)
        → ((ws : List A) (left : List ℕ) → times read n middle ≡ Ok (ws, left)
        → rest_of read n middle ≡ left) → rest_of read n middle ≡ rest
    behind v middle (Err flaw) e h are = absurd cc
    behind v middle (Ok x) e h are = rw (are x.0 x.1 e) (same_Ok_pair (v ∷ x.0) vs x.1 rest h).1

    first : (found : Result (A × List ℕ) Flaw)
        → go_on found (λ v. times read n >>= λ ws. give (v ∷ ws)) ≡ Ok (vs, rest)
        → ((middle : List ℕ) (ws : List A) (left : List ℕ) → times read n middle ≡ Ok (ws, left)
        → rest_of read n middle ≡ left) → and_rest (rest_of read n) bytes found ≡ rest
    first (Err flaw) h are = absurd cc
    first (Ok x) h are = behind x.0 x.1 (times read n x.1) refl h (are x.1)

-- a list behind its count
pub list_counted : {A : Type 0} (read : Reader A) (n : ℕ) (bytes start : List ℕ) (vs : List A)
    (rest : List ℕ) → read_u32 bytes ≡ Ok (n, start) → times read n start ≡ Ok (vs, rest)
    → AreCounted bytes (place_in read n start ∷ []) rest
list_counted read n bytes start vs rest e h = (
  record {
    before = bytes;
    ends = ([], refl);
    begins = e;
    all = rw (members_are read n start vs rest h) (are_counted read n start vs rest h);
  },
  ([], rest_is read n start vs rest h),
)

-- the first of some members, and the others
pub first_of : {A : Type 0} (read : Reader A) (n : ℕ) (v : A) (bytes rest : List ℕ) → n ≢ 0
    → read bytes ≡ Ok (v, rest) → members_of read n bytes ≡ v ∷ members_of read (n - 1) rest
first_of read zero v bytes rest some e = absurd (some refl)
first_of read (suc n) v bytes rest some e = let k : suc n - 1 ≡ n = omega arith in rw (e, k) refl

pub none_of : {A : Type 0} (read : Reader A) (n : ℕ) (bytes : List ℕ) → n ≡ 0
    → members_of read n bytes ≡ []
none_of read n bytes e = rw e refl

pub none_read : {A : Type 0} (read : Reader A) (n : ℕ) (bytes : List ℕ) → read bytes ≡ Err Bad
    → members_of read n bytes ≡ []
none_read read zero bytes e = refl
none_read read (suc n) bytes e = rw e refl
