-- What follows from the laws of a piece and of its reader.
use Rattle.std.proofs.Common.{◌≡◌, ℕ, zero, suc, ◌+◌, ◌≤◌, ◌≢◌, Bool, true, false, cond, eqb, List}
use Rattle.std.proofs.Common.{[], ◌∷◌, ◌++◌, length, Result, Ok, Err, refl, sym, ap, ◌∙◌}
use Rattle.std.proofs.Common.{append_assoc, arith, inl, inr}
use Rattle.std.proofs.lemmas.Bool.Decides.{nat_tests}
use Rattle.wenc_base.specs.FormLaws.{FormLaws}
use Rattle.wenc_base.specs.Fault.{NoCause}
use Rattle.wenc_base.specs.declared.fault.Fault.{Fault}
use Rattle.wenc_base.specs.declared.fault.Fault.TheVariants.{Unfinished}
use Rattle.wenc_base.specs.Readers.{Flaw, Bad, Reader, go_on, ◌>>=◌, give, times, pick, choose}
use Rattle.wenc_base.specs.Readers.{done, made, Lawful, LawfulForm}
use Rattle.wenc_base.specs.Piece.{Piece, Form, Spelling, Strict, Wide, nothing, byte, EndsWith}
use Rattle.wenc_base.specs.Piece.{refused_for, ◌▸◌, or_widely, ◌⨾◌, only_where, each, raw}
use Rattle.std.proofs.lemmas.List.{append-nil}

-- ---- the laws of a piece that fills the bytes

pub record LawfulWhole {A : Type 0} (w : Piece) (read : ℕ → List ℕ → Result A Flaw) (v : A) : Type 0 where
  pub text_is_read : (mode : Spelling) → w.Fits → w.Reads mode w.text []
  pub strict_is_text : (bytes : List ℕ) → w.Reads Strict bytes [] → bytes ≡ w.text
  pub fits : (bytes : List ℕ) → w.Reads Strict bytes [] → w.Fits
  pub free : w.Fits → NoCause w.Cause
  pub never : w.Cause Unfinished → ⊥
  pub depth : ℕ
  pub finds : (fuel : ℕ) → depth ≤ fuel → (mode : Spelling) (bytes : List ℕ) → w.Reads mode bytes []
      → read fuel bytes ≡ Ok v

-- ---- what follows

ok_or : {A : Type 0} → A → Result A Flaw → A
ok_or d (Ok v) = v
ok_or d (Err flaw) = d

pub same_Ok : {A : Type 0} (x y : A) → ◌≡◌ {A = Result A Flaw} (Ok x) (Ok y) → x ≡ y
unfolding ok_or
same_Ok x y e = ap (ok_or x) e

pub same_Ok_pair : {A B : Type 0} (v w : A) (r s : B) → ◌≡◌ {A = Result (A × B) Flaw} (Ok (v, r))
    (Ok (w, s)) → (v ≡ w) × (r ≡ s)
same_Ok_pair {A} {B} v w r s e = let same =
    same_Ok (v, r) (w, s) e in (ap (λ (x : A × B). x.0) same, ap (λ (x : A × B). x.1) same)

-- two values that one reader finds
pub reads_once : {A : Type 0} {p q : Piece} {read : ℕ → Reader A} {v w : A} → Lawful p read v → Lawful q read w
    → (mode other : Spelling) (bytes r s : List ℕ) → p.Reads mode bytes r → q.Reads other bytes s → (v ≡ w) × (r ≡ s)
reads_once {v = v} {w = w} one two mode other bytes r s a b =
    same_Ok_pair v w r s (sym (one.finds (one.depth + two.depth) (omega arith) mode bytes r a)
    ∙ two.finds (one.depth + two.depth) (omega arith) other bytes s b)

-- no text begins another
pub delimited : {A : Type 0} {p q : Piece} {read : ℕ → Reader A} {v w : A} → Lawful p read v → Lawful q read w
    → (r s : List ℕ) → p.Fits → q.Fits → p.text ++ r ≡ q.text ++ s → (v ≡ w) × (r ≡ s)
delimited {p = p} {q = q} one two r s h k e =
    reads_once one two Strict Strict (p.text ++ r) r s (one.text_is_read Strict r h)
    (rw e (two.text_is_read Strict s k))

-- two values that one reader finds in all of the bytes
pub whole_once : {A : Type 0} {p q : Piece} {read : ℕ → List ℕ → Result A Flaw} {v w : A}
    → LawfulWhole p read v → LawfulWhole q read w
    → (mode other : Spelling) (bytes : List ℕ) → p.Reads mode bytes [] → q.Reads other bytes [] → v ≡ w
whole_once {v = v} {w = w} one two mode other bytes a b =
    same_Ok v w (sym (one.finds (one.depth + two.depth) (omega arith) mode bytes a)
    ∙ two.finds (one.depth + two.depth) (omega arith) other bytes b)

-- what is read strictly is read widely
pub wide_reads_strict : {A : Type 0} {p : Piece} {read : ℕ → Reader A} {v : A} → Lawful p read v
    → (bytes rest : List ℕ) → p.Reads Strict bytes rest → p.Reads Wide bytes rest
wide_reads_strict one bytes rest r =
    rw (one.strict_is_text bytes rest r) (one.text_is_read Wide rest (one.fits bytes rest r))

-- ---- the laws of a form

-- they follow from the laws of each value
pub form_laws : {A : Type 0} {form : Form A} {read : ℕ → Reader A} → LawfulForm form read → FormLaws form
form_laws laws = record {
  text_is_read = λ mode v. (laws v).text_is_read mode;
  strict_is_text = λ v bytes rest r. ((laws v).fits bytes rest r, (laws v).strict_is_text bytes rest r);
  reads_once = λ v w. reads_once (laws v) (laws w);
  delimited = λ v w. delimited (laws v) (laws w);
  wide_reads_strict = λ v. wide_reads_strict (laws v);
  fits_is_free = λ v. (laws v).free;
  never_unfinished = λ v. (laws v).never;
}

-- ---- bytes

-- what the end of the bytes ends with
pub ends_on : (bytes middle rest : List ℕ) → EndsWith bytes middle → EndsWith middle rest → EndsWith bytes rest
ends_on bytes middle rest e f =
    (e.0 ++ f.0, e.1 ∙ (ap (λ (t : List ℕ). e.0 ++ t) f.1 ∙ sym (append_assoc e.0 f.0 rest)))

pub nothing_lawful : {A : Type 0} (v : A) → Lawful nothing (λ fuel. give v) v
nothing_lawful v = record {
  text_is_read = λ mode rest h. refl;
  strict_is_text = λ bytes rest r. r;
  fits = λ bytes rest r. tt;
  leaves = λ mode bytes rest r. ([], r);
  free = λ h fault c. c;
  never = λ c. c;
  depth = 0;
  finds = λ fuel le mode bytes rest r. rw r refl;
}

-- a byte that a row has, and no more
pub row_byte : {A : Type 0} {v : A} (table : ℕ → List (ℕ × Reader A)) (other : ℕ → Reader A) (b : ℕ)
    → ((fuel : ℕ) (rest : List ℕ) → pick (table fuel) (other fuel) b rest ≡ Ok (v, rest))
    → Lawful (byte b) (λ fuel. choose (table fuel) (other fuel)) v
unfolding choose
row_byte table other b e = record {
  text_is_read = λ mode rest h. refl;
  strict_is_text = λ bytes rest r. r;
  fits = λ bytes rest r. tt;
  leaves = λ mode bytes rest r. (b ∷ [], r);
  free = λ h fault c. c;
  never = λ c. c;
  depth = 0;
  finds = λ fuel le mode bytes rest r. rw r (e fuel rest);
}

-- a piece that is refused for another cause
pub refused_lawful : {A : Type 0} {p : Piece} {read : ℕ → Reader A} {v : A} (cause : Fault → Type 0)
    → Lawful p read v → (p.Fits → NoCause cause) → (cause Unfinished → ⊥)
    → Lawful (refused_for cause p) read v
refused_lawful cause l free never = record {
  text_is_read = l.text_is_read;
  strict_is_text = l.strict_is_text;
  fits = l.fits;
  leaves = l.leaves;
  free = free;
  never = never;
  depth = l.depth;
  finds = l.finds;
}

-- ---- choices by the first byte

-- a piece after a byte that a row has
pub row_lawful : {A : Type 0} {p : Piece} {v : A} (table : ℕ → List (ℕ × Reader A))
    (other : ℕ → Reader A) (b : ℕ) → Lawful p (λ fuel. pick (table fuel) (other fuel) b) v
    → Lawful (b ▸ p) (λ fuel. choose (table fuel) (other fuel)) v
unfolding choose
row_lawful {p = p} table other b l = record {
  text_is_read = λ mode rest h. (p.text ++ rest, refl, l.text_is_read mode rest h);
  strict_is_text = λ bytes rest r. r.1 ∙ ap (λ (t : List ℕ). b ∷ t) (l.strict_is_text r.0 rest r.2);
  fits = λ bytes rest r. l.fits r.0 rest r.2;
  leaves = λ mode bytes rest r. ends_on bytes r.0 rest (b ∷ [], r.1) (l.leaves mode r.0 rest r.2);
  free = l.free;
  never = l.never;
  depth = l.depth;
  finds = λ fuel le mode bytes rest r. rw r.1 (l.finds fuel le mode r.0 rest r.2);
}

-- a byte that a row has, then a piece
pub first_byte : {A : Type 0} {q : Piece} {v : A} (table : ℕ → List (ℕ × Reader A)) (other : ℕ → Reader A) (b : ℕ)
    → Lawful q (λ fuel. pick (table fuel) (other fuel) b) v
    → Lawful (byte b ⨾ q) (λ fuel. choose (table fuel) (other fuel)) v
first_byte table other b l =
    let r = row_lawful table other b l in
    record {
      text_is_read = λ mode rest h. r.text_is_read mode rest h.1;
      strict_is_text = r.strict_is_text;
      fits = λ bytes rest reads. (tt, r.fits bytes rest reads);
      leaves = r.leaves;
      free = λ h fault c. elim c [ inl k ↦ k | inr k ↦ r.free h.1 fault k ];
      never = λ c. elim c [ inl k ↦ k | inr k ↦ r.never k ];
      depth = r.depth;
      finds = r.finds;
    }

-- two pieces, of which the first begins with a byte that a row has
pub first_of_two : {A : Type 0} (p q : Piece) {v : A} (table : ℕ → List (ℕ × Reader A)) (other : ℕ → Reader A) (b : ℕ)
    → Lawful (p ⨾ q) (λ fuel. pick (table fuel) (other fuel) b) v
    → Lawful ((b ▸ p) ⨾ q) (λ fuel. choose (table fuel) (other fuel)) v
first_of_two p q table other b l =
    let r = row_lawful table other b l in
    record {
      text_is_read = λ mode rest h. (let s = r.text_is_read mode rest h in (s.2.0, (s.0, s.1, s.2.1), s.2.2));
      strict_is_text = λ bytes rest s. r.strict_is_text bytes rest (s.1.0, s.1.1, (s.0, s.1.2, s.2));
      fits = λ bytes rest s. r.fits bytes rest (s.1.0, s.1.1, (s.0, s.1.2, s.2));
      leaves = λ mode bytes rest s. r.leaves mode bytes rest (s.1.0, s.1.1, (s.0, s.1.2, s.2));
      free = r.free;
      never = r.never;
      depth = r.depth;
      finds = λ fuel le mode bytes rest s. r.finds fuel le mode bytes rest (s.1.0, s.1.1, (s.0, s.1.2, s.2));
    }

-- a piece with two spellings, which one reader knows
pub or_widely_lawful : {A : Type 0} {p q : Piece} {read : ℕ → Reader A} {v : A} → Lawful p read v
    → Lawful q read v → Lawful (or_widely p q) read v
or_widely_lawful a b = record {
  text_is_read = λ mode rest h. inl (a.text_is_read mode rest h);
  strict_is_text = λ bytes rest r. elim r [ inl e ↦ a.strict_is_text bytes rest e | inr w ↦ absurd w.0 ];
  fits = λ bytes rest r. elim r [ inl e ↦ a.fits bytes rest e | inr w ↦ absurd w.0 ];
  leaves = λ mode bytes rest r. elim r [ inl e ↦ a.leaves mode bytes rest e | inr w ↦ b.leaves mode bytes rest w.1 ];
  free = a.free;
  never = a.never;
  depth = a.depth + b.depth;
  finds = λ fuel le mode bytes rest r. elim r [
    | inl e ↦ a.finds fuel (omega arith) mode bytes rest e
    | inr w ↦ b.finds fuel (omega arith) mode bytes rest w.1
  ];
}

-- no row is the byte's
abbrev pub IsPast : {A : Type 0} → List (ℕ × Reader A) → ℕ → Type 0
IsPast [] b = Unit {0}
IsPast (row ∷ table) b = (b ≢ row.0) × IsPast table b

other_than : (b c : ℕ) → b ≢ c → eqb b c ≡ false
other_than b c h = grind (arith, nat_tests)

pub pick_past : {A : Type 0} (table : List (ℕ × Reader A)) (other : Reader A) (b : ℕ)
    (bytes : List ℕ) → IsPast table b → pick table other b bytes ≡ other (b ∷ bytes)
pick_past [] other b bytes h = refl
pick_past (row ∷ table) other b bytes h = rw (other_than b row.0 h.0, pick) (pick_past table other b bytes h.1)

-- Where the piece is, its first byte is one of which P holds.
pub record Starts (p : Piece) (P : ℕ → Type 0) : Type 0 where
  pub starts : (mode : Spelling) (bytes rest : List ℕ) → p.Reads mode bytes rest
      → (b : ℕ) × (more : List ℕ) × (bytes ≡ b ∷ more) × P b

-- a piece whose first byte is in no row
pub past : {A : Type 0} {p : Piece} {v : A} (table : ℕ → List (ℕ × Reader A)) (other : ℕ → Reader A)
    → ((fuel : ℕ) → Starts p (IsPast (table fuel))) → Lawful p other v
    → Lawful p (λ fuel. choose (table fuel) (other fuel)) v
unfolding choose
past table other begins l = record {
  text_is_read = l.text_is_read;
  strict_is_text = l.strict_is_text;
  fits = l.fits;
  leaves = l.leaves;
  free = l.free;
  never = l.never;
  depth = l.depth;
  finds = λ fuel le mode bytes rest r.
      (let s = (begins fuel).starts mode bytes rest r in
      rw s.2 (pick_past (table fuel) (other fuel) s.0 s.1 s.3 ∙ rw s.2 at (l.finds fuel le mode bytes rest r)));
}

-- ---- one after the other

pub then : {A B : Type 0} {p q : Piece} {read : ℕ → Reader A} {v : A}
    (next : ℕ → A → Reader B) {w : B} → Lawful p read v → Lawful q (λ fuel. next fuel v) w
    → Lawful (p ⨾ q) (λ fuel. read fuel >>= next fuel) w
then {p = p} {q = q} next a b = record {
  text_is_read = λ mode rest h. (
    q.text ++ rest,
    rw append_assoc
        (a.text_is_read mode (q.text ++ rest) h.0),
    b.text_is_read mode rest h.1,
  );
  strict_is_text = λ bytes rest r. a.strict_is_text bytes r.0 r.1 ∙ ap
      (λ (t : List ℕ). p.text ++ t) (b.strict_is_text r.0 rest r.2)
      ∙ sym (append_assoc p.text q.text rest);
  fits = λ bytes rest r. (a.fits bytes r.0 r.1, b.fits r.0 rest r.2);
  leaves = λ mode bytes rest r. ends_on bytes r.0 rest (a.leaves mode bytes r.0 r.1) (b.leaves mode r.0 rest r.2);
  free = λ h fault c. elim c [ inl k ↦ a.free h.0 fault k | inr k ↦ b.free h.1 fault k ];
  never = λ c. elim c [ inl k ↦ a.never k | inr k ↦ b.never k ];
  depth = a.depth + b.depth;
  finds = λ fuel le mode bytes rest r. rw (a.finds fuel (omega arith) mode bytes r.0 r.1)
      (b.finds fuel (omega arith) mode r.0 rest r.2);
}

-- the value is made of what was read last
pub last : {A B : Type 0} {p : Piece} {read : ℕ → Reader A} {v : A} (make : A → B) → Lawful p read v
    → Lawful p (λ fuel. read fuel >>= λ x. give (make x)) (make v)
last make a = record {
  text_is_read = a.text_is_read;
  strict_is_text = a.strict_is_text;
  fits = a.fits;
  leaves = a.leaves;
  free = a.free;
  never = a.never;
  depth = a.depth;
  finds = λ fuel le mode bytes rest r. rw (a.finds fuel le mode bytes rest r) refl;
}

-- a piece that is allowed where a fact holds
pub only_where_lawful : {A : Type 0} {p : Piece} {read : ℕ → Reader A} {v : A} (P : Type 0)
    → Lawful p read v → Lawful (only_where P p) read v
only_where_lawful P a = record {
  text_is_read = λ mode rest h. (h.0, a.text_is_read mode rest h.1);
  strict_is_text = λ bytes rest r. a.strict_is_text bytes rest r.1;
  fits = λ bytes rest r. (r.0, a.fits bytes rest r.1);
  leaves = λ mode bytes rest r. a.leaves mode bytes rest r.1;
  free = λ h. a.free h.1;
  never = a.never;
  depth = a.depth;
  finds = λ fuel le mode bytes rest r. a.finds fuel le mode bytes rest r.1;
}

-- a piece for each value, with a reader of one that is called as often as there are values
pub each_lawful : {A : Type 0} {form : Form A} {read : ℕ → Reader A}
    → ((v : A) → Lawful (form v) read v) → (vs : List A) → Lawful (each form vs)
    (λ fuel. times (read fuel) (length vs)) vs
each_lawful laws [] = nothing_lawful []
each_lawful laws (v ∷ vs) = then _ (laws v) (last _ (each_lawful laws vs))

-- a reader that calls itself
pub deeper : {A : Type 0} {p : Piece} {read : ℕ → Reader A} {v : A}
    → Lawful p (λ fuel. read (suc fuel)) v → Lawful p read v
deeper {p = p} {read = read} {v = v} a = record {
  text_is_read = a.text_is_read;
  strict_is_text = a.strict_is_text;
  fits = a.fits;
  leaves = a.leaves;
  free = a.free;
  never = a.never;
  depth = suc a.depth;
  finds = finds;
}
  where
    finds : (fuel : ℕ) → suc a.depth ≤ fuel → (mode : Spelling) (bytes rest : List ℕ)
        → p.Reads mode bytes rest → read fuel bytes ≡ Ok (v, rest)
    finds zero le mode bytes rest r = absurd (omega arith)
    finds (suc fuel) le mode bytes rest r = a.finds fuel (omega arith) mode bytes rest r

-- ---- all of the bytes

pub whole_lawful : {A : Type 0} {p : Piece} {read : ℕ → Reader A} {v : A} → Lawful p read v
    → LawfulWhole p (λ fuel. done (read fuel)) v
whole_lawful {p = p} a = record {
  text_is_read = λ mode h. rw append-nil at (a.text_is_read mode [] h);
  strict_is_text = λ bytes r. a.strict_is_text bytes [] r ∙ append-nil p.text;
  fits = λ bytes r. a.fits bytes [] r;
  free = a.free;
  never = a.never;
  depth = a.depth;
  finds = λ fuel le mode bytes r. rw (a.finds fuel le mode bytes [] r) refl;
}

-- any bytes of which P holds, as is tested
pub raw_lawful : {A : Type 0} (P : List ℕ → Type 0) (is_so : List ℕ → Bool) (bs : List ℕ)
    (make : List ℕ → A) → (P bs → is_so bs ≡ true)
    → LawfulWhole (raw P bs) (λ fuel bytes. cond (is_so bytes) (Ok (make bytes)) (Err Bad)) (make bs)
raw_lawful P is_so bs make test = record {
  text_is_read = λ mode h. (h, sym (append-nil bs));
  strict_is_text = λ bytes r. r.1 ∙ append-nil bs;
  fits = λ bytes r. r.0;
  free = λ h fault c. c;
  never = λ c. c;
  depth = 0;
  finds = λ fuel le mode bytes r. rw (r.1, append-nil bs, test r.0) refl;
}

pub then_whole : {A B : Type 0} {p q : Piece} {read : ℕ → Reader A} {v : A}
    (next : ℕ → A → List ℕ → Result B Flaw) {w : B} → Lawful p read v
    → LawfulWhole q (λ fuel. next fuel v) w → LawfulWhole (p ⨾ q)
    (λ fuel bytes. go_on (read fuel bytes) (next fuel)) w
then_whole {p = p} {q = q} next a b = record {
  text_is_read = λ mode h. (q.text, a.text_is_read mode q.text h.0, b.text_is_read mode h.1);
  strict_is_text = λ bytes r. a.strict_is_text bytes r.0 r.1 ∙ ap
      (λ (t : List ℕ). p.text ++ t) (b.strict_is_text r.0 r.2);
  fits = λ bytes r. (a.fits bytes r.0 r.1, b.fits r.0 r.2);
  free = λ h fault c. elim c [ inl k ↦ a.free h.0 fault k | inr k ↦ b.free h.1 fault k ];
  never = λ c. elim c [ inl k ↦ a.never k | inr k ↦ b.never k ];
  depth = a.depth + b.depth;
  finds = λ fuel le mode bytes r. rw (a.finds fuel (omega arith) mode bytes r.0 r.1)
      (b.finds fuel (omega arith) mode r.0 r.2);
}

pub last_whole : {A B : Type 0} {w : Piece} {read : ℕ → List ℕ → Result A Flaw} {v : A}
    (make : A → B) → LawfulWhole w read v → LawfulWhole w
    (λ fuel bytes. made make (read fuel bytes)) (make v)
last_whole make a = record {
  text_is_read = a.text_is_read;
  strict_is_text = a.strict_is_text;
  fits = a.fits;
  free = a.free;
  never = a.never;
  depth = a.depth;
  finds = λ fuel le mode bytes r. rw (a.finds fuel le mode bytes r) refl;
}

-- ---- up to the end

-- What is made where no byte is left, or else of what is read next. It stays shut, as `choose`
-- does.
unfoldable pub to_end : {A B : Type 0} → B → Reader A → (A → List ℕ → Result B Flaw) → List ℕ → Result B Flaw
to_end none read next [] = Ok none
to_end none read next (b ∷ bytes) = go_on (read (b ∷ bytes)) next

pub at_end : {A B : Type 0} (none : B) (read : ℕ → Reader A) (next : ℕ → A → List ℕ → Result B Flaw)
    → LawfulWhole nothing (λ fuel. to_end none (read fuel) (next fuel)) none
unfolding to_end
at_end none read next = record {
  text_is_read = λ mode h. refl;
  strict_is_text = λ bytes r. r;
  fits = λ bytes r. tt;
  free = λ h fault c. c;
  never = λ c. c;
  depth = 0;
  finds = λ fuel le mode bytes r. rw r refl;
}

some_left : {A B : Type 0} (none : B) (read : Reader A) (next : A → List ℕ → Result B Flaw)
    (bytes : List ℕ) (x : A × List ℕ) → read [] ≡ Err Bad → read bytes ≡ Ok x
    → to_end none read next bytes ≡ go_on (read bytes) next
unfolding to_end
some_left none read next [] x nowhere found = absurd cc
some_left none read next (b ∷ bytes) x nowhere found = refl

pub before_end : {A B : Type 0} {p q : Piece} {v : A} {w : B} (none : B) (read : ℕ → Reader A)
    (next : ℕ → A → List ℕ → Result B Flaw)
    → ((fuel : ℕ) → read fuel [] ≡ Err Bad) → Lawful p read v
    → LawfulWhole q (λ fuel. next fuel v) w → LawfulWhole (p ⨾ q)
    (λ fuel. to_end none (read fuel) (next fuel)) w
before_end {v = v} none read next some a b =
    let l = then_whole next a b in
    record {
      text_is_read = l.text_is_read;
      strict_is_text = l.strict_is_text;
      fits = l.fits;
      free = l.free;
      never = l.never;
      depth = a.depth + l.depth;
      finds = λ fuel le mode bytes r. some_left none (read fuel) (next fuel) bytes (v, r.0)
          (some fuel) (a.finds fuel (omega arith) mode bytes r.0 r.1)
          ∙ l.finds fuel (omega arith) mode bytes r;
    }

pub deeper_whole : {A : Type 0} {p : Piece} {read : ℕ → List ℕ → Result A Flaw} {v : A}
    → LawfulWhole p (λ fuel. read (suc fuel)) v → LawfulWhole p read v
deeper_whole {p = p} {read = read} {v = v} a = record {
  text_is_read = a.text_is_read;
  strict_is_text = a.strict_is_text;
  fits = a.fits;
  free = a.free;
  never = a.never;
  depth = suc a.depth;
  finds = finds;
}
  where
    finds : (fuel : ℕ) → suc a.depth ≤ fuel → (mode : Spelling) (bytes : List ℕ)
        → p.Reads mode bytes [] → read fuel bytes ≡ Ok v
    finds zero le mode bytes r = absurd (omega arith)
    finds (suc fuel) le mode bytes r = a.finds fuel (omega arith) mode bytes r
