-- What a reader finds is read, and where it says that it is too deep, the bytes go so deep: the
-- other way round of `finds`.
use Rattle.std.proofs.Common.{◌≡◌, ℕ, zero, suc, ◌<◌, true, false, eqb, List, [], ◌∷◌, ◌++◌, length}
use Rattle.std.proofs.Common.{map, Result, Ok, Err, refl, sym, ap, subst, inl, inr, ◌⊎◌, arith}
use Rattle.std.proofs.lemmas.Bool.{eqb-true}
use Rattle.std.specs.List.{AllByRecursion}
use Rattle.wenc_base.specs.Piece.{Piece, Form, Wide, nothing, ◌▸◌, ◌⨾◌, only_where, each}
use Rattle.wenc_base.specs.Readers.{Flaw, Bad, Deep, Reader, go_on, ◌>>=◌, give, nowhere, too_deep}
use Rattle.wenc_base.specs.Readers.{times, pick, choose, all_read, done, Lawful}

-- P of what was found, Goes where that is too deep
abbrev pub Told : {A : Type 0} → (A → Type 0) → Type 0 → Result A Flaw → Type 0
Told P Goes (Ok x) = P x
Told P Goes (Err Bad) = Unit {0}
Told P Goes (Err Deep) = Goes

pub record Tells {A : Type 0} (form : Form A) (Goes : List ℕ → Type 0) (read : Reader A) : Type 0 where
  pub tells : (bytes : List ℕ) → Told (λ x. (form x.0).Reads Wide bytes x.1) (Goes bytes) (read bytes)

-- What the reader finds is read, and nothing is too deep.
abbrev pub Sound : {A : Type 0} → Form A → Reader A → Type 0
Sound form read = Tells form (λ bytes. ⊥) read

-- What the reader finds of all of the bytes is read, and nothing is too deep.
pub record SoundWhole {A : Type 0} (form : Form A) (read : List ℕ → Result A Flaw) : Type 0 where
  pub tells : (bytes : List ℕ) → Told (λ v. (form v).Reads Wide bytes []) ⊥ (read bytes)

pub weaken : {A : Type 0} (P Q : A → Type 0) (D E : Type 0) (found : Result A Flaw)
    → ((x : A) → P x → Q x) → (D → E) → Told P D found → Told Q E found
weaken P Q D E (Ok x) k go h = k x h
weaken P Q D E (Err Bad) k go h = tt
weaken P Q D E (Err Deep) k go h = go h

pub deep_where : {A : Type 0} {form : Form A} {read : Reader A} (Goes Went : List ℕ → Type 0)
    → Tells form Goes read → ((bytes : List ℕ) → Goes bytes → Went bytes) → Tells form Went read
deep_where {form = form} {read = read} Goes Went t go = record {
  tells = λ bytes. weaken (λ x. (form x.0).Reads Wide bytes x.1)
      (λ x. (form x.0).Reads Wide bytes x.1) (Goes bytes) (Went bytes) (read bytes)
      (λ x r. r) (go bytes) (t.tells bytes);
}

-- what doesn't nest
pub sound_tells : {A : Type 0} {form : Form A} {read : Reader A} (Goes : List ℕ → Type 0)
    → Sound form read → Tells form Goes read
sound_tells Goes s = deep_where (λ bytes. ⊥) Goes s (λ bytes e. absurd e)

-- ---- one after the other

pub told_on : {A B : Type 0} (P : A × List ℕ → Type 0) (D : Type 0) (Q : B → Type 0) (E : Type 0)
    (next : A → List ℕ → Result B Flaw) (found : Result (A × List ℕ) Flaw)
    → Told P D found → (D → E) → ((x : A × List ℕ) → P x → Told Q E (next x.0 x.1)) → Told Q E (go_on found next)
told_on P D Q E next (Ok x) h go k = k x h
told_on P D Q E next (Err Bad) h go k = tt
told_on P D Q E next (Err Deep) h go k = go h

-- what is left of a form after this value of another one
abbrev pub behind_value : {A B : Type 0} → Form A → A → Form B → Form B
behind_value part v form w = record {
  Fits = (form w).Fits;
  Cause = (form w).Cause;
  text = (form w).text;
  Reads = λ mode middle rest. (bytes : List ℕ) → (part v).Reads mode bytes middle → (form w).Reads mode bytes rest;
}

-- a value, then what is read after it
pub then_tells : {A B : Type 0} {part : Form A} {read : Reader A} {form : Form B} {Goes : List ℕ
    → Type 0} (next : A → Reader B) → Tells part Goes read
    → ((v : A) → Sound (behind_value part v form) (next v)) → Tells form Goes (read >>= next)
then_tells {part = part} {read = read} {form = form} {Goes = Goes} next t k = record {
  tells = λ bytes. told_on (λ x. (part x.0).Reads Wide bytes x.1) (Goes bytes)
      (λ y. (form y.0).Reads Wide bytes y.1) (Goes bytes) next (read bytes) (t.tells bytes)
      (λ g. g) (λ x r.
      weaken (λ y. (behind_value part x.0 form y.0).Reads Wide x.1 y.1)
      (λ y. (form y.0).Reads Wide bytes y.1) ⊥ (Goes bytes) (next x.0 x.1) (λ y h. h bytes r)
      (λ e. absurd e) ((k x.0).tells x.1));
}

-- the value is made of what was read last
pub last_tells : {A B : Type 0} {part : Form A} {read : Reader A} {form : Form B} {Goes : List ℕ
    → Type 0} (make : A → B) → Tells part Goes read
    → ((v : A) (bytes rest : List ℕ) → (part v).Reads Wide bytes rest
    → (form (make v)).Reads Wide bytes rest) → Tells form Goes (read >>= λ x. give (make x))
last_tells {part = part} {read = read} {form = form} {Goes = Goes} make t k = record {
  tells = λ bytes. told_on (λ x. (part x.0).Reads Wide bytes x.1) (Goes bytes)
      (λ y. (form y.0).Reads Wide bytes y.1) (Goes bytes) (λ x. give (make x)) (read bytes)
      (t.tells bytes) (λ g. g) (λ x r. k x.0 bytes x.1 r);
}

-- a value of no byte
pub give_tells : {A : Type 0} {form : Form A} {Goes : List ℕ → Type 0} (v : A)
    → ((bytes : List ℕ) → (form v).Reads Wide bytes bytes) → Tells form Goes (give v)
give_tells v k = record { tells = λ bytes. k bytes }

pub nowhere_tells : {A : Type 0} {form : Form A} {Goes : List ℕ → Type 0} → Tells form Goes nowhere
nowhere_tells = record { tells = λ bytes. tt }

pub too_deep_tells : {A : Type 0} {form : Form A} {Goes : List ℕ → Type 0}
    → ((bytes : List ℕ) → Goes bytes) → Tells form Goes too_deep
too_deep_tells k = record { tells = λ bytes. k bytes }

-- ---- choices by the first byte

-- what is read after this byte
abbrev pub sound_behind : {A : Type 0} → ℕ → Form A → Form A
sound_behind b form v = record {
  Fits = (form v).Fits;
  Cause = (form v).Cause;
  text = (form v).text;
  Reads = λ mode bytes rest. (form v).Reads mode (b ∷ bytes) rest;
}

-- each row finds only what is read after its byte
abbrev pub RowsTell : {A : Type 0} → Form A → (List ℕ → Type 0) → List (ℕ × Reader A) → Type 0
RowsTell form Goes [] = Unit {0}
RowsTell form Goes (row ∷ table) =
    Tells (sound_behind row.0 form) (λ bytes. Goes (row.0 ∷ bytes)) row.1 × RowsTell form Goes table

abbrev pub RowsAreSound : {A : Type 0} → Form A → List (ℕ × Reader A) → Type 0
RowsAreSound form table = RowsTell form (λ bytes. ⊥) table

-- the rows of two tables
pub both_tables : {A : Type 0} (form : Form A) (one other : List (ℕ × Reader A))
    → RowsAreSound form one → RowsAreSound form other → RowsAreSound form (one ++ other)
both_tables form [] other a b = b
both_tables form (row ∷ one) other a b = (a.0, both_tables form one other a.1 b)

-- rows of values that are a byte each
pub given_rows : {A T : Type 0} (form : Form A) (byte_of : T → ℕ) (make : T → A)
    → ((t : T) (rest : List ℕ) → (form (make t)).Reads Wide (byte_of t ∷ rest) rest)
    → (ts : List T) → RowsAreSound form (map (λ t. (byte_of t, give (make t))) ts)
given_rows form byte_of make k [] = tt
given_rows form byte_of make k (t ∷ ts) = (give_tells (make t) (k t), given_rows form byte_of make k ts)

pub tested : (b c : ℕ) → ((eqb b c ≡ true) × (b ≡ c)) ⊎ (eqb b c ≡ false)
tested b c = elim (eqb b c) as (λ t. (eqb b c ≡ t) → ((eqb b c ≡ true) × (b ≡ c))
    ⊎ (eqb b c ≡ false)) [ true ↦ λ e. inl (e, eqb-true b c e) | false ↦ λ e. inr e ] refl

picked : {A : Type 0} (form : Form A) (Goes : List ℕ → Type 0) (table : List (ℕ × Reader A))
    (other : Reader A) → RowsTell form Goes table → Tells form Goes other
    → (b : ℕ) (bytes : List ℕ) → Told (λ x. (form x.0).Reads Wide (b ∷ bytes) x.1)
    (Goes (b ∷ bytes)) (pick table other b bytes)
picked form Goes [] other h s b bytes = s.tells (b ∷ bytes)
picked {A} form Goes (row ∷ table) other h s b bytes =
    elim (tested b row.0) [
      | inl e ↦ rw (e.0, pick) (subst (λ (c : ℕ). Told (λ x. (form x.0).Reads Wide (c ∷ bytes) x.1)
          (Goes (c ∷ bytes)) (row.1 bytes)) (sym e.1) (h.0.tells bytes))
      | inr e ↦ rw (e, pick) (picked form Goes table other h.1 s b bytes)
    ]

pub choose_tells : {A : Type 0} {form : Form A} {Goes : List ℕ → Type 0}
    (table : List (ℕ × Reader A)) (other : Reader A) → RowsTell form Goes table
    → Tells form Goes other → Tells form Goes (choose table other)
unfolding choose
choose_tells {form = form} {Goes = Goes} table other rows s = record { tells = λ bytes. chosen bytes }
  where
    chosen : (bytes : List ℕ) → Told (λ x. (form x.0).Reads Wide bytes x.1) (Goes bytes) (choose table other bytes)
    chosen [] = tt
    chosen (b ∷ bytes) = picked form Goes table other rows s b bytes

-- ---- so many values

-- fewer values than that, and then bytes of which P holds
abbrev pub Fewer : {A : Type 0} → Form A → (List ℕ → Type 0) → ℕ → List ℕ → Type 0
Fewer {A} form P n bytes = (before : List A) × (left : List ℕ)
    × (each form before).Reads Wide bytes left × (length before < n) × P left

abbrev pub Several : {A : Type 0} → Form A → ℕ → List ℕ → List A × List ℕ → Type 0
Several form n bytes x = (length x.0 ≡ n) × (each form x.0).Reads Wide bytes x.1

pub times_told : {A : Type 0} {form : Form A} (Goes : List ℕ → Type 0) {read : Reader A} → Tells form Goes read
    → (n : ℕ) (bytes : List ℕ) → Told (Several form n bytes) (Fewer form Goes n bytes) (times read n bytes)
times_told Goes t zero bytes = (refl, refl)
times_told {form = form} Goes {read = read} t (suc n) bytes =
    told_on (λ x. (form x.0).Reads Wide bytes x.1) (Goes bytes) (Several form (suc n) bytes)
    (Fewer form Goes (suc n) bytes) (λ v. times read n >>= λ vs. give (v ∷ vs)) (read bytes)
    (t.tells bytes)
    (λ g. ([], bytes, refl, omega arith, g)) (λ x r.
    told_on (Several form n x.1) (Fewer form Goes n x.1) (Several form (suc n) bytes)
    (Fewer form Goes (suc n) bytes) (λ vs. give (x.0 ∷ vs)) (times read n x.1)
    (times_told Goes t n x.1)
    (λ f. (x.0 ∷ f.0, f.1, (x.1, r, f.2), omega (arith, f.3), f.4)) (λ y s. (ap suc s.0, (x.1, r, s.1))))

-- values of which each is as P says
pub each_plain : {A : Type 0} (form : Form A) (P : A → Type 0) (vs : List A) (bytes rest : List ℕ)
    → (each (λ v. only_where (P v) (form v)) vs).Reads Wide bytes rest
    → (each form vs).Reads Wide bytes rest × AllByRecursion P vs
each_plain form P [] bytes rest r = (r, tt)
each_plain form P (v ∷ vs) bytes rest r = let others =
    each_plain form P vs r.0 rest r.2 in ((r.0, r.1.1, others.0), (r.1.0, others.1))

-- ---- all of the bytes

pub all_told : {A : Type 0} (P : A × List ℕ → Type 0) (D : Type 0)
    (found : Result (A × List ℕ) Flaw) → Told P D found → Told (λ v. P (v, [])) D (all_read found)
all_told P D (Ok (v, [])) h = h
all_told P D (Ok (v, b ∷ rest)) h = tt
all_told P D (Err Bad) h = tt
all_told P D (Err Deep) h = h

pub whole_sound : {A : Type 0} {form : Form A} {read : Reader A} → Sound form read → SoundWhole form (done read)
whole_sound {form = form} {read = read} s =
    record {
      tells = λ bytes. all_told (λ x. (form x.0).Reads Wide bytes x.1) ⊥ (read bytes)
          (s.tells bytes);
    }

-- a value, then the rest of the bytes
pub then_whole_sound : {A B : Type 0} {part : Form A} {read : Reader A} (form : Form B)
    (next : A → List ℕ → Result B Flaw) → Sound part read
    → ((v : A) (bytes middle : List ℕ) → (part v).Reads Wide bytes middle
    → Told (λ w. (form w).Reads Wide bytes []) ⊥ (next v middle))
    → SoundWhole form (λ bytes. go_on (read bytes) next)
then_whole_sound {part = part} {read = read} form next s k = record {
  tells = λ bytes. told_on (λ x. (part x.0).Reads Wide bytes x.1) ⊥
      (λ w. (form w).Reads Wide bytes []) ⊥ next (read bytes) (s.tells bytes) (λ e. e)
      (λ x r. k x.0 bytes x.1 r);
}

-- ---- what is read is found

-- This was found, or else it may have been too deep, where it is.
abbrev pub Agrees : {A : Type 0} → Type 0 → A → Result A Flaw → Type 0
Agrees IsDeeper x (Ok y) = y ≡ x
Agrees IsDeeper x (Err Bad) = ⊥
Agrees IsDeeper x (Err Deep) = IsDeeper

pub record Finds {A : Type 0} (p : Piece) (read : Reader A) (v : A) (IsDeeper : Type 0) : Type 0 where
  pub finds : (bytes rest : List ℕ) → p.Reads Wide bytes rest → Agrees IsDeeper (v, rest) (read bytes)

weaker : {A : Type 0} (D E : Type 0) (x : A) (found : Result A Flaw) → (D → E) → Agrees D x found → Agrees E x found
weaker D E x (Ok y) k h = h
weaker D E x (Err Bad) k h = absurd h
weaker D E x (Err Deep) k h = k h

pub or_deeper : {A : Type 0} {p : Piece} {read : Reader A} {v : A} {D : Type 0} (E : Type 0)
    → (D → E) → Finds p read v D → Finds p read v E
or_deeper {read = read} {v = v} {D = D} E k f =
    record { finds = λ bytes rest r. weaker D E (v, rest) (read bytes) k (f.finds bytes rest r) }

agrees_on : {A B : Type 0} (D : Type 0) (x : A × List ℕ) (w : B × List ℕ) (next : A → Reader B)
    (found : Result (A × List ℕ) Flaw)
    → Agrees D x found → Agrees D w (next x.0 x.1) → Agrees D w (go_on found next)
agrees_on D x w next (Ok y) e h = subst (λ (z : _ × List ℕ). Agrees D w (next z.0 z.1)) (sym e) h
agrees_on D x w next (Err Bad) e h = absurd e
agrees_on D x w next (Err Deep) e h = e

-- what agrees and can't be too deep is found
pub agreed : {A : Type 0} (D : Type 0) (x : A) (found : Result A Flaw) → Agrees D x found → (D → ⊥) → found ≡ Ok x
agreed D x (Ok y) a never = ap (λ (z : _). Ok z) a
agreed D x (Err Bad) a never = absurd a
agreed D x (Err Deep) a never = absurd (never a)

pub nothing_finds : {A : Type 0} (v : A) (D : Type 0) → Finds nothing (give v) v D
nothing_finds v D = record { finds = λ bytes rest r. ap (λ (t : List ℕ). (v, t)) r }

pub then_finds : {A B : Type 0} {p q : Piece} {read : Reader A} {v : A}
    (next : A → Reader B) {w : B} {D : Type 0} → Finds p read v D → Finds q (next v) w D
    → Finds (p ⨾ q) (read >>= next) w D
then_finds {read = read} {v = v} next {w = w} {D = D} a b = record {
  finds = λ bytes rest r. agrees_on D (v, r.0) (w, rest) next (read bytes) (a.finds bytes r.0 r.1)
      (b.finds r.0 rest r.2);
}

pub last_finds : {A B : Type 0} {p : Piece} {read : Reader A} {v : A} {D : Type 0} (make : A → B)
    → Finds p read v D → Finds p (read >>= λ x. give (make x)) (make v) D
last_finds {read = read} {v = v} {D = D} make a = record {
  finds = λ bytes rest r. agrees_on D (v, rest) (make v, rest)
      (λ x. give (make x)) (read bytes) (a.finds bytes rest r) refl;
}

-- what doesn't nest
pub lawful_finds : {A : Type 0} {p : Piece} {read : Reader A} {v : A} (D : Type 0)
    → Lawful p (λ fuel. read) v → Finds p read v D
lawful_finds D l = record { finds = λ bytes rest r. rw (l.finds l.depth (omega arith) Wide bytes rest r) refl }

pub too_deep_finds : {A : Type 0} {p : Piece} {v : A} (D : Type 0) → D → Finds p too_deep v D
too_deep_finds D d = record { finds = λ bytes rest r. d }

-- a piece after a byte that a row has
pub row_finds : {A : Type 0} {p : Piece} {v : A} {D : Type 0} (table : List (ℕ × Reader A))
    (other : Reader A) (b : ℕ) (read : Reader A)
    → ((rest : List ℕ) → pick table other b rest ≡ read rest)
    → Finds p read v D → Finds (b ▸ p) (choose table other) v D
unfolding choose
row_finds {v = v} {D = D} table other b read is_row f =
    record { finds = λ bytes rest r. rw (r.1, is_row r.0) (f.finds r.0 rest r.2) }

-- the other reader finds nothing after the bytes of the table
abbrev pub ReadsApart : {A : Type 0} → Reader A → List (ℕ × Reader A) → Type 0
ReadsApart other [] = Unit {0}
ReadsApart other (row ∷ table) = ((rest : List ℕ) → other (row.0 ∷ rest) ≡ Err Bad) × ReadsApart other table

past_of : {A : Type 0} (D : Type 0) (x : A × List ℕ) (table : List (ℕ × Reader A))
    (other : Reader A) → ReadsApart other table → (b : ℕ) (rest : List ℕ)
    → Agrees D x (other (b ∷ rest)) → Agrees D x (pick table other b rest)
past_of D x [] other h b rest a = a
past_of {A} D x (row ∷ table) other h b rest a =
    elim (tested b row.0) [
      | inl e ↦ absurd (rw (h.0 rest) at (subst (λ (c : ℕ). Agrees D x (other (c ∷ rest))) e.1 a))
      | inr e ↦ rw (e, pick) (past_of D x table other h.1 b rest a)
    ]

other_agrees : {A : Type 0} (D : Type 0) (x : A × List ℕ) (table : List (ℕ × Reader A))
    (other : Reader A) → ReadsApart other table → (other [] ≡ Err Bad) → (bytes : List ℕ)
    → Agrees D x (other bytes) → Agrees D x (choose table other bytes)
unfolding choose
other_agrees D x table other apart empty [] a = absurd (rw empty at a)
other_agrees D x table other apart empty (b ∷ bytes) a = past_of D x table other apart b bytes a

-- so what it finds is found
pub other_finds : {A : Type 0} {p : Piece} {v : A} {D : Type 0} (table : List (ℕ × Reader A))
    (other : Reader A) → ReadsApart other table → (other [] ≡ Err Bad) → Finds p other v D
    → Finds p (choose table other) v D
other_finds {v = v} {D = D} table other apart empty f =
    record {
      finds = λ bytes rest r. other_agrees D (v, rest) table other apart empty bytes
          (f.finds bytes rest r);
    }

pub other_lawful : {A : Type 0} {p : Piece} {read : ℕ → Reader A} {v : A}
    (table : ℕ → List (ℕ × Reader A)) → ((fuel : ℕ) → ReadsApart (read fuel) (table fuel))
    → ((fuel : ℕ) → read fuel [] ≡ Err Bad) → Lawful p read v
    → Lawful p (λ fuel. choose (table fuel) (read fuel)) v
other_lawful {read = read} {v = v} table apart empty l = record {
  text_is_read = l.text_is_read;
  strict_is_text = l.strict_is_text;
  fits = l.fits;
  leaves = l.leaves;
  free = l.free;
  never = l.never;
  depth = l.depth;
  finds = λ fuel le mode bytes rest r.
      agreed ⊥ (v, rest) (choose (table fuel) (read fuel) bytes)
      (other_agrees ⊥ (v, rest) (table fuel) (read fuel) (apart fuel) (empty fuel) bytes
      (rw (l.finds fuel le mode bytes rest r) refl)) (λ e. e);
}
