-- The bytes with which a value can begin, by the rows of its reader.
use Rattle.std.proofs.Common.{◌≡◌, ◌<◌, ℕ, List, [], ◌∷◌, Bool, true, ◌&&◌, ◌||◌}
use Rattle.std.proofs.Common.{Result, Ok, Err, is_ok, refl, sym, subst, ◌∙◌, inl, inr, arith}
use Rattle.std.proofs.Common.{nat_eq, nat_lt, not, if◌then◌else◌, replicate}
use Rattle.std.proofs.lemmas.Bool.{agree_below, agree_below_at, and_parts, lt-ltb, le-ltb, cases_lt}
use Rattle.wenc_base.specs.laws.Sound.{tested}
use Rattle.wenc_base.specs.Readers.{Flaw, Bad, Reader, go_on, ◌>>=◌, nowhere, pick, choose}
use Rattle.wenc_base.specs.reading.Numbers.{read_groups, read_index}
use Rattle.wenc_read.specs.Expected.{Range, is_in, ranges_of, BeginsWith}
use Rattle.wenc_read.specs.declared.expected.Expected.{Expected}

-- nothing is read that begins with another byte
pub record OthersFail {A : Type 0} (read : Reader A) (ranges : List Range) : Type 0 where
  pub fail : (b : ℕ) (rest : List ℕ) (x : A × List ℕ) → read (b ∷ rest) ≡ Ok x
      → is_in ranges b ≡ true

-- whether each row's byte is in one of the ranges
abbrev pub all_in : {A : Type 0} → List Range → List (ℕ × Reader A) → Bool
all_in ranges [] = true
all_in ranges (row ∷ table) = is_in ranges row.0 && all_in ranges table

pub nowhere_fails : {A : Type 0} {ranges : List Range} → OthersFail {A = A} nowhere ranges
nowhere_fails = record { fail = λ b rest x e. absurd cc }

picks : {A : Type 0} (ranges : List Range) (table : List (ℕ × Reader A)) (other : Reader A)
    → all_in ranges table ≡ true → OthersFail other ranges → (b : ℕ) (rest : List ℕ)
    (x : A × List ℕ) → pick table other b rest ≡ Ok x → is_in ranges b ≡ true
picks ranges [] other rows h b rest x e = h.fail b rest x e
picks ranges (row ∷ table) other rows h b rest x e = let parts =
    and_parts (is_in ranges row.0) (all_in ranges table) rows in
    elim (tested b row.0) [
      | inl same ↦ subst (λ c. is_in ranges c ≡ true) (sym same.1) parts.0
      | inr other_row ↦
          let step : pick (row ∷ table) other b rest ≡ pick table other b rest =
          rw (other_row, pick) refl in
          picks ranges table other parts.1 h b rest x (sym step ∙ e)
    ]

-- by the bytes of the rows
pub choose_fails : {A : Type 0} {ranges : List Range} (table : List (ℕ × Reader A))
    (other : Reader A) → all_in ranges table ≡ true → OthersFail other ranges
    → OthersFail (choose table other) ranges
unfolding choose
choose_fails {ranges = ranges} table other rows h = record {
  fail = λ b rest x e. picks ranges table other rows h b rest x e;
}

went_on : {A B : Type 0} (found : Result (A × List ℕ) Flaw) (next : A → List ℕ → Result B Flaw)
    (y : B) → go_on found next ≡ Ok y → (x : A × List ℕ) × found ≡ Ok x
went_on (Ok x) next y e = (x, refl)
went_on (Err flaw) next y e = absurd cc

-- what is read first says it
pub then_fails : {A B : Type 0} {read : Reader A} {ranges : List Range} (next : A → Reader B)
    → OthersFail read ranges → OthersFail (read >>= next) ranges
then_fails {read = read} next h = record {
  fail = λ b rest x e.
      let found = went_on (read (b ∷ rest)) next x e in h.fail b rest found.0 found.1;
}

-- a byte of an index
abbrev pub begins_index : ℕ → Bool
begins_index b = nat_lt b 64 || not (nat_lt b 128)

index_first : (b : ℕ) (rest : List ℕ) (x : ℕ × List ℕ) → read_index (b ∷ rest) ≡ Ok x
    → (b < 256) × (begins_index b ≡ true)
unfolding read_groups
index_first b rest x e = elim (cases_lt b 64) [
  | inl low ↦ (omega arith, rw (lt-ltb b 64 low) refl)
  | inr high ↦ elim (cases_lt b 128) [
    | inl last ↦ absurd (no_number (rw (le-ltb b 64 high, lt-ltb b 128 last) refl))
    | inr more ↦ elim (cases_lt b 256) [
      | inl small ↦ (small, rw (le-ltb b 64 high, le-ltb b 128 more) refl)
      | inr large ↦
          absurd (no_number (rw (le-ltb b 64 high, le-ltb b 128 more, le-ltb b 256 large) refl))
    ]
  ]
]
  where
    no_number : read_index (b ∷ rest) ≡ Err Bad → ⊥
    no_number bad = absurd cc

-- where the ranges have each byte of an index
pub index_fails : {ranges : List Range}
    → agree_below (λ b. begins_index b && is_in ranges b) begins_index 256 ≡ true
    → OthersFail read_index ranges
index_fails {ranges = ranges} all = record {
  fail = λ b rest x e. let first = index_first b rest x e in
      (and_parts _ _ (agree_below_at (λ c. begins_index c && is_in ranges c) begins_index 256 b all
      first.0
      ∙ first.1)).1;
}

-- bytes after a first one: those of its row, or else zeros
abbrev pub after : List (ℕ × List ℕ) → ℕ → List ℕ
after [] b = replicate 16 0
after (row ∷ rows) b = if nat_eq b row.0 then row.1 else after rows b

-- each expected byte with these after it
pub begins : {A : Type 0} {read : Reader A} (expected : Expected) (rows : List (ℕ × List ℕ))
    → OthersFail read (ranges_of expected)
    → agree_below (λ b. is_in (ranges_of expected) b && is_ok (read (b ∷ after rows b)))
    (is_in (ranges_of expected)) 256 ≡ true
    → BeginsWith read expected
begins {read = read} expected rows h all = record {
  others_fail = h.fail;
  each_begins = λ b small is. (
    after rows b,
    (and_parts _ _ (agree_below_at
        (λ c. is_in (ranges_of expected) c && is_ok (read (c ∷ after rows c)))
        (is_in (ranges_of expected)) 256 b all small ∙ is)).1,
  );
}
