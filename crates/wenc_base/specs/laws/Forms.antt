-- The laws of forms made of others.
use Rattle.std.proofs.Common.{true≢false, ◌≡◌, ℕ, ◌≤◌, Bool, true, false, cond, List, [], ◌∷◌, ◌++◌}
use Rattle.std.proofs.Common.{length, take, drop, Option, Some, None, Result, Ok, Err, refl, sym}
use Rattle.std.proofs.Common.{◌∙◌, append_assoc, arith, inl, inr}
use Rattle.std.specs.Str.{is_utf8}
use Rattle.std.proofs.lemmas.Bool.{cases_lt, lt-ltb, le-ltb}
use Rattle.std.proofs.lemmas.List.{take_at, drop_at, take-append-drop, length-take-le, length-append, append-nil}
use Rattle.wenc_base.specs.Number.{u32}
use Rattle.wenc_base.specs.Piece.{Piece, Form, Wide, raw}
use Rattle.wenc_base.specs.laws.Sound.{Told, Sound, SoundWhole, weaken, behind_value, then_tells}
use Rattle.wenc_base.specs.laws.Sound.{last_tells, give_tells, nowhere_tells, choose_tells, Fewer}
use Rattle.wenc_base.specs.laws.Sound.{Several, times_told}
use Rattle.wenc_base.specs.Forms.{flag, list, option, utf8, name, AreBytes, sized, byte_list, counted}
use Rattle.wenc_base.specs.Readers.{Flaw, Bad, Lawful, Reader, times, done}
use Rattle.wenc_base.specs.laws.Lawful.{LawfulWhole, ends_on, row_lawful, row_byte, then, last}
use Rattle.wenc_base.specs.laws.Lawful.{each_lawful, whole_lawful, raw_lawful}
use Rattle.wenc_base.specs.laws.Numbers.{u32_lawful, count_lawful, size_lawful, size_free, u32_sound}
use Rattle.std.proofs.lemmas.Str.{IsUtf8-from_is_utf8, is_utf8-from_IsUtf8}
use Rattle.wenc_base.specs.reading.Forms.{are_bytes, read_byte_list, read_bytes, read_flag}
use Rattle.wenc_base.specs.reading.Forms.{read_list, read_name, read_option, read_raw, read_sized}
use Rattle.wenc_base.specs.reading.Forms.{read_text, text_at}

-- ---- flags

pub flag_lawful : (b : Bool) → Lawful (flag b) (λ fuel. read_flag) b
flag_lawful false = row_byte _ _ 0 (λ fuel rest. refl)
flag_lawful true = row_byte _ _ 1 (λ fuel rest. refl)

pub flag_sound : Sound flag read_flag
flag_sound = choose_tells _ _ (give_tells false (λ bytes. refl), (give_tells true (λ bytes. refl), tt)) nowhere_tells

-- ---- lists

pub list_lawful : {A : Type 0} {form : Form A} {read : ℕ → Reader A}
    → ((v : A) → Lawful (form v) read v) → (vs : List A) → Lawful (list form vs)
    (λ fuel. read_list (read fuel)) vs
list_lawful laws vs = then _ (count_lawful (length vs)) (each_lawful laws vs)

pub list_sound : {A : Type 0} {form : Form A} {read : Reader A} → Sound form read → Sound (list form) (read_list read)
list_sound {form = form} {read = read} s =
    then_tells _ u32_sound (λ n. record {
      tells = λ middle. weaken (Several form n middle)
          (λ x. (behind_value u32 n (list form) x.0).Reads Wide middle x.1)
          (Fewer form (λ bytes. ⊥) n middle) ⊥ (times read n middle)
          (λ x h. (λ bytes r. (middle, rw h.0 r, h.1))) (λ f. f.4)
          (times_told (λ bytes. ⊥) s n middle);
    })

-- ---- options

pub option_lawful : {A : Type 0} {form : Form A} {read : ℕ → Reader A}
    → ((v : A) → Lawful (form v) read v) → (o : Option A)
    → Lawful (option form o) (λ fuel. read_option (read fuel)) o
option_lawful laws None = row_byte _ _ 0 (λ fuel rest. refl)
option_lawful laws (Some v) = row_lawful _ _ 1 (last Some (laws v))

pub option_sound : {A : Type 0} {form : Form A} {read : Reader A} → Sound form read
    → Sound (option form) (read_option read)
option_sound s = choose_tells _ _ (
  give_tells None (λ bytes. refl),
  (last_tells Some s (λ v bytes rest r. (bytes, refl, r)), tt),
) nowhere_tells

-- ---- names

pub utf8_lawful : (bs : List ℕ) → Lawful (utf8 bs) (λ fuel. read_text (length bs)) bs
unfolding text_at
utf8_lawful bs = record {
  text_is_read = λ mode rest h. (h, refl);
  strict_is_text = λ bytes rest r. r.1;
  fits = λ bytes rest r. r.0;
  leaves = λ mode bytes rest r. (bs, r.1);
  free = λ h fault c. c;
  never = λ c. c;
  depth = 0;
  finds = λ fuel le mode bytes rest r. rw (
    r.1,
    le-ltb (length (bs ++ rest)) (length bs) (omega (arith, length-append bs rest)),
    take_at bs rest (length bs) refl,
    drop_at bs rest (length bs) refl,
    is_utf8-from_IsUtf8 bs r.0,
  ) refl;
}

text_sound : (n : ℕ) (bytes : List ℕ)
    → Told (λ (x : List ℕ × List ℕ). (length x.0 ≡ n) × (utf8 x.0).Reads Wide bytes x.1) ⊥
    (read_text n bytes)
unfolding text_at
text_sound n bytes =
    elim (cases_lt (length bytes) n) [
      | inl lt ↦ rw (lt-ltb (length bytes) n lt, cond) tt
      | inr ge ↦ rw (le-ltb (length bytes) n ge, cond) (tested (is_utf8 (take n bytes)) refl ge)
    ]
  where
    tested : (t : Bool) → is_utf8 (take n bytes) ≡ t → n ≤ length bytes
        → Told (λ (x : List ℕ × List ℕ). (length x.0 ≡ n) × (utf8 x.0).Reads Wide bytes x.1) ⊥
        (cond t (Ok (take n bytes, drop n bytes)) (Err Bad))
    tested true e le = (
      length-take-le n bytes le,
      (
        IsUtf8-from_is_utf8 (take n bytes) e,
        sym (take-append-drop n bytes),
      ),
    )
    tested false e le = tt

pub name_lawful : (bs : List ℕ) → Lawful (name bs) (λ fuel. read_name) bs
name_lawful bs = then _ (size_lawful (length bs)) (utf8_lawful bs)

pub name_sound : Sound name read_name
name_sound = then_tells _ u32_sound (λ n. record {
  tells = λ middle. weaken (λ x. (length x.0 ≡ n) × (utf8 x.0).Reads Wide middle x.1)
      (λ x. (behind_value u32 n name x.0).Reads Wide middle x.1) ⊥ ⊥ (read_text n middle)
      (λ x h. (λ bytes r. (middle, rw h.0 r, h.1))) (λ e. e) (text_sound n middle);
})

-- ---- with a size

pub sized_lawful : {A : Type 0} {p : Piece} {read : ℕ → List ℕ → Result A Flaw} {v : A}
    → LawfulWhole p read v → Lawful (sized p) (λ fuel. read_sized (read fuel)) v
sized_lawful {p = p} a = record {
  text_is_read = λ mode rest h. (
    p.text,
    rw append_assoc
        ((u32_lawful (length p.text)).text_is_read mode (p.text ++ rest) h.0),
    a.text_is_read mode h.1,
  );
  strict_is_text = λ bytes rest r.
      (let whole : r.0 ≡ p.text = a.strict_is_text r.0 r.2 in
      (u32_lawful (length r.0)).strict_is_text bytes (r.0 ++ rest) r.1 ∙ rw whole (sym (append_assoc _ p.text rest)));
  fits = λ bytes rest r. (
    rw (a.strict_is_text r.0 r.2) at
        ((u32_lawful (length r.0)).fits bytes (r.0 ++ rest) r.1),
    a.fits r.0 r.2,
  );
  leaves = λ mode bytes rest r. ends_on bytes (r.0 ++ rest) rest
      ((u32_lawful (length r.0)).leaves mode bytes (r.0 ++ rest) r.1) (r.0, refl);
  free = λ h fault c. elim c [ inl large ↦ size_free (length p.text) h.0 fault large | inr own ↦ a.free h.1 fault own ];
  never = λ c. elim c [ inl large ↦ large | inr own ↦ a.never own ];
  depth = a.depth;
  finds = λ fuel le mode bytes rest r.
      rw (
        (u32_lawful (length r.0)).finds (u32_lawful (length r.0)).depth (omega arith) mode bytes
            (r.0 ++ rest) r.1,
        le-ltb (length (r.0 ++ rest)) (length r.0)
            (omega (arith, length-append r.0 rest)),
        take_at r.0 rest (length r.0) refl,
        drop_at r.0 rest (length r.0) refl,
        a.finds fuel le mode r.0 r.2,
      ) refl;
}

-- ---- lists of bytes

pub bytes_pass : (bytes : List ℕ) → AreBytes bytes → are_bytes bytes ≡ true
bytes_pass [] h = refl
bytes_pass (b ∷ bytes) h = rw (lt-ltb b 256 h.0) (bytes_pass bytes h.1)

pub passed_bytes : (bytes : List ℕ) → are_bytes bytes ≡ true → AreBytes bytes
passed_bytes [] e = tt
passed_bytes (b ∷ bytes) e =
    elim (cases_lt b 256) [
      | inl lt ↦ (lt, passed_bytes bytes (rw (lt-ltb b 256 lt) at e))
      | inr ge ↦ absurd (true≢false (sym (rw (le-ltb b 256 ge) at e)))
    ]

pub bytes_lawful : {A : Type 0} (make : List ℕ → A) (bs : List ℕ)
    → LawfulWhole (raw AreBytes bs) (λ fuel. read_bytes make) (make bs)
bytes_lawful make bs = raw_lawful AreBytes are_bytes bs make (bytes_pass bs)

pub bytes_sound : {A : Type 0} (P : A → Type 0) (make : List ℕ → A) (bytes : List ℕ)
    → (AreBytes bytes → P (make bytes)) → Told P ⊥ (read_bytes make bytes)
bytes_sound P make bytes k = tested (are_bytes bytes) refl
  where
    tested : (t : Bool) → are_bytes bytes ≡ t → Told P ⊥ (cond t (Ok (make bytes)) (Err Bad))
    tested true e = k (passed_bytes bytes e)
    tested false e = tt

pub raw_sound : SoundWhole (raw AreBytes) read_raw
raw_sound = record {
  tells = λ bytes. bytes_sound (λ bs. (raw AreBytes bs).Reads Wide bytes [])
      (λ bs. bs) bytes (λ h. (h, sym (append-nil bytes)));
}

pub byte_list_lawful : (bs : List ℕ) → Lawful (byte_list bs) (λ fuel. read_byte_list) bs
byte_list_lawful bs = sized_lawful (bytes_lawful (λ bytes. bytes) bs)

-- ---- counted sections

abbrev pub read_counted : {A : Type 0} → Reader A → Reader (List A)
read_counted read = read_sized (done (read_list read))

pub counted_lawful : {A : Type 0} {form : Form A} {read : ℕ → Reader A}
    → ((v : A) → Lawful (form v) read v) → (vs : List A) → Lawful (counted form vs)
    (λ fuel. read_counted (read fuel)) vs
counted_lawful laws vs = sized_lawful (whole_lawful (list_lawful laws vs))
