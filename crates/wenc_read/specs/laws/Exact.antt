-- Why readers are exact.
use Rattle.std.proofs.Common.{◌≡◌, ℕ, List, [], ◌∷◌, length, Option, Some, None, Result, Ok, Err, refl, arith}
use Rattle.wenc_base.specs.Prelude.{Bad, Deep, Flaw, Form, LawfulForm, Reader, Sound, Told, Wide}
use Rattle.wenc_base.specs.Prelude.{byte, count_lawful, each, list, list_sound, option}
use Rattle.wenc_base.specs.Prelude.{option_sound, read_byte, read_list, read_option, times}
use Rattle.wenc_base.specs.Readers.{choose}
use Rattle.wenc_read.specs.Exact.{IsExactAt, IsExact, Reading}
use Rattle.wenc_read.specs.laws.Tables.{first_there}

-- ---- from the laws of a form

-- where all that is found at these bytes is read
pub found_and_read : {A : Type 0} {form : Form A} {read : Reader A} {bytes : List ℕ}
    → Told (λ x. (form x.0).Reads Wide bytes x.1) ⊥ (read bytes)
    → ((v : A) (rest : List ℕ) → (form v).Reads Wide bytes rest → read bytes ≡ Ok (v, rest))
    → IsExactAt form read bytes
found_and_read told found = record {
  given_is_read = λ v rest e. rw e at told;
  read_is_given = found;
  never_deep = λ e. rw e at told;
}

pub exact_by : {A : Type 0} {form : Form A} {read : Reader A} → Sound form read
    → LawfulForm form (λ fuel. read) → IsExact form read
exact_by s laws bytes = found_and_read (s.tells bytes) (λ v. (laws v).finds (laws v).depth
    (omega arith) Wide bytes)

abbrev pub read_by : {A : Type 0} {form : Form A} {read : Reader A} → Sound form read
    → LawfulForm form (λ fuel. read) → Reading A
read_by {form = form} {read = read} s laws = record {
  read = read;
  form = form;
  exact = exact_by s laws;
}

pub byte_exact : IsExact byte read_byte
byte_exact [] = record {
  given_is_read = λ b rest e. absurd cc;
  read_is_given =
      λ b rest r. absurd cc;
  never_deep = λ e. absurd cc;
}
byte_exact (c ∷ bytes) = record {
  given_is_read = λ b rest e. first_there (c ∷ bytes) rest b e;
  read_is_given = λ b rest r. cc;
  never_deep = λ e. absurd cc;
}

-- ---- of lists and options

sound_of : {A : Type 0} {form : Form A} {read : Reader A} → IsExact form read → Sound form read
sound_of {form = form} {read = read} x = record { tells = λ bytes. told bytes (read bytes) refl }
  where
    told : (bytes : List ℕ) (found : Result _ Flaw) → read bytes ≡ found
        → Told (λ y. (form y.0).Reads Wide bytes y.1) ⊥ found
    told bytes (Ok y) e = (x bytes).given_is_read y.0 y.1 e
    told bytes (Err Bad) e = tt
    told bytes (Err Deep) e = (x bytes).never_deep e

each_found : {A : Type 0} {form : Form A} {read : Reader A} → IsExact form read
    → (vs : List A) (bytes rest : List ℕ) → (each form vs).Reads Wide bytes rest
    → times read (length vs) bytes ≡ Ok (vs, rest)
each_found x [] bytes rest r = rw r refl
each_found x (v ∷ vs) bytes rest r = rw (
  (x bytes).read_is_given v r.0 r.1,
  each_found x vs r.0 rest
      r.2,
) refl

pub list_exact : {A : Type 0} {form : Form A} {read : Reader A} → IsExact form read
    → IsExact (list form) (read_list read)
list_exact x bytes = found_and_read ((list_sound (sound_of x)).tells bytes) (λ vs rest r.
    let n = count_lawful (length vs) in
    rw (n.finds n.depth (omega arith) Wide bytes r.0 r.1, each_found x vs r.0 rest r.2) refl)

pub option_exact : {A : Type 0} {form : Form A} {read : Reader A} → IsExact form read
    → IsExact (option form) (read_option read)
unfolding choose
option_exact {form = form} {read = read} x bytes = found_and_read
    ((option_sound (sound_of x)).tells bytes) found
  where
    found : (o : Option _) (rest : List ℕ) → (option form o).Reads Wide bytes rest
        → read_option read bytes ≡ Ok (o, rest)
    found None rest r = rw r refl
    found (Some v) rest r = rw (r.1, (x r.0).read_is_given v rest r.2) refl

abbrev pub reading_list : {A : Type 0} → Reading A → Reading (List A)
reading_list r = record {
  read = read_list r.read;
  form = list r.form;
  exact = list_exact r.exact;
}

abbrev pub reading_option : {A : Type 0} → Reading A → Reading (Option A)
reading_option r = record {
  read = read_option r.read;
  form = option r.form;
  exact = option_exact r.exact;
}
