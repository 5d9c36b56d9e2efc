-- Options, lists and pairs have their laws from their members.
use Rattle.std.proofs.Common.{◌≡◌, Bool, true, ◌&&◌, ℕ, ◌++◌, [], ◌∷◌, List, map, Option, Some, None, option_map, refl, ap}
use Rattle.std.specs.Option.{option_eq}
use Rattle.std.specs.Cmp.{IsEquivalence}
use Rattle.std.specs.Cmp.Lexicographic.{pointwise}
use Rattle.wenc_base.specs.Delimited.{IsReadable, IsWritten, ReadsBack, AlikeIsEqual, pair}
use Rattle.wenc_base.specs.Forms.{option, list}
use Rattle.wenc_base.specs.laws.Forms.{option_lawful, list_lawful}
use Rattle.wenc_base.specs.reading.Forms.{read_option, read_list}
use Rattle.wenc_base.specs.Readers.{Reader, LawfulForm, ◌>>=◌, give}
use Rattle.wenc_base.specs.laws.Lawful.{delimited, then, last}
use Rattle.wenc_base.specs.Piece.{Form}

-- ---- a value that is seen so, or as it is

abbrev pub as_seen : {A S : Type 0} {form : Form S} {read : ℕ → Reader S} (seen : A → S)
    → LawfulForm form read → ReadsBack A
as_seen {S = S} {form = form} {read = read} seen lawful = record {
  Seen = S;
  seen = seen;
  form = form;
  readable = (read, lawful);
}

abbrev pub as_itself : {A : Type 0} {form : Form A} {read : ℕ → Reader A} → LawfulForm form read
    → ReadsBack A
as_itself lawful = as_seen (λ v. v) lawful

-- what is seen of a part, or of another view
abbrev pub back_through : {A B : Type 0} (f : A → B) → ReadsBack B → ReadsBack A
back_through f r = record {
  Seen = r.Seen;
  seen = λ v. r.seen (f v);
  form = r.form;
  readable = r.readable;
}

-- ---- a value, or none

pub option_readable : {A : Type 0} (form : Form A) → IsReadable form → IsReadable (option form)
option_readable form laws = ((λ fuel. read_option (laws.0 fuel)), option_lawful laws.1)

abbrev pub option_back : {A : Type 0} → ReadsBack A → ReadsBack (Option A)
option_back r = record {
  Seen = Option r.Seen;
  seen = option_map r.seen;
  form = option r.form;
  readable = option_readable r.form r.readable;
}

-- ---- one value, then another

pub pair_readable : {A B : Type 0} (one : Form A) (two : Form B) → IsReadable one → IsReadable two
    → IsReadable (pair one two)
pair_readable one two first second = (
  (λ fuel. first.0 fuel >>= λ v. second.0 fuel >>= λ w. give (v, w)),
  λ p. then _ (first.1 p.0) (last _ (second.1 p.1)),
)

abbrev pub pair_back : {A B : Type 0} → ReadsBack A → ReadsBack B → ReadsBack (A × B)
pair_back r t = record {
  Seen = r.Seen × t.Seen;
  seen = λ p. (r.seen p.0, t.seen p.1);
  form = pair r.form t.form;
  readable = pair_readable r.form t.form r.readable t.readable;
}

-- ---- as many values as there are

pub list_readable : {A : Type 0} (form : Form A) → IsReadable form → IsReadable (list form)
list_readable form laws = ((λ fuel. read_list (laws.0 fuel)), list_lawful laws.1)

abbrev pub list_back : {A : Type 0} → ReadsBack A → ReadsBack (List A)
list_back r = record {
  Seen = List r.Seen;
  seen = map r.seen;
  form = list r.form;
  readable = list_readable r.form r.readable;
}

-- ---- what follows

-- two values that fit, and their texts, each followed by any bytes
pub told : {A S : Type 0} (piece : Form A) (seen : A → S) (form : Form S) → IsReadable form → IsWritten piece seen form
    → (a b : A) (r s : List ℕ) → (piece a).Fits → (piece b).Fits
    → (piece a).text ++ r ≡ (piece b).text ++ s → (seen a ≡ seen b) × (r ≡ s)
told piece seen form laws is a b r s h k e =
    delimited (laws.1 (seen a)) (laws.1 (seen b)) r s ((is a).fits h) ((is b).fits k)
    (rw ((is a).text, (is b).text) at e)

-- ---- equal values

pub itself : {A : Type 0} (eq : A → A → Bool) → IsEquivalence eq → (a b : A) → a ≡ b → eq a b ≡ true
itself eq laws a b e = rw e (laws.refl b)

pub option_equal : {A S : Type 0} (eq : A → A → Bool) (seen : A → S) → AlikeIsEqual eq seen
    → AlikeIsEqual (option_eq eq) (option_map seen)
option_equal eq seen alike None None e = refl
option_equal eq seen alike None (Some w) e = absurd cc
option_equal eq seen alike (Some v) None e = absurd cc
option_equal eq seen alike (Some v) (Some w) e = alike v w cc

pub pair_equal : {A B S R : Type 0} (eq : A → A → Bool) (eq' : B → B → Bool) (seen : A → S)
    (seen' : B → R) → AlikeIsEqual eq seen → AlikeIsEqual eq' seen'
    → AlikeIsEqual {A = A × B} {S = S × R} (λ p q. eq p.0 q.0 && eq' p.1 q.1) (λ p. (seen p.0, seen' p.1))
pair_equal {S = S} {R = R} eq eq' seen seen' alike alike' p q e =
    let one : eq p.0 q.0 ≡ true = alike p.0 q.0 (ap (λ (x : S × R). x.0) e) in
    let two : eq' p.1 q.1 ≡ true = alike' p.1 q.1 (ap (λ (x : S × R). x.1) e) in
    rw (one, two) refl

pub list_equal : {A S : Type 0} (eq : A → A → Bool) (seen : A → S) → AlikeIsEqual eq seen
    → AlikeIsEqual (pointwise eq) (map seen)
list_equal eq seen alike [] [] e = refl
list_equal eq seen alike [] (w ∷ ws) e = absurd cc
list_equal eq seen alike (v ∷ vs) [] e = absurd cc
list_equal eq seen alike (v ∷ vs) (w ∷ ws) e =
    let one : eq v w ≡ true = alike v w cc in
    let others : pointwise eq vs ws ≡ true = list_equal eq seen alike vs ws cc in
    rw (one, others) refl
