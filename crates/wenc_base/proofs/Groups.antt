-- Numbers in groups of seven bits.
use Rattle.std.proofs.Common.{◌≡◌, ℕ, ℤ, pos, negsuc, zero, suc, ◌+◌, ◌/◌, ◌%◌, ◌^◌, ◌<◌, ◌≤◌, Bool, true, false, cond, List, [], ◌∷◌, ◌++◌}
use Rattle.std.proofs.Common.{length, refl, sym, ap, ◌∙◌, arith, inl, inr, append_assoc, length-append, add-one, take, drop}
use Rattle.std.proofs.lemmas.Bool.{cases_lt}
use Rattle.std.proofs.lemmas.List.{length-map, set_split}
use Rattle.std.specs.Prelude.{slice_set, slice_index}
pub use Rattle.wenc_base.specs.laws.Groups.{limit, groups_below, groups_from}
use Rattle.wenc_base.specs.laws.Numbers.{same_in_room}
use Rattle.wenc_base.specs.Number.{groups, complement, turned, unsigned_text, signed_text, number_size}

pub groups_length : (top room n : ℕ) → length (groups top room n) ≤ suc room
unfolding groups
groups_length top zero n = omega arith
groups_length top (suc room) n =
    elim (cases_lt n top) [
      | inl lt ↦ rw (groups_below top (suc room) n lt) (omega arith)
      | inr le ↦ rw (groups_from top room n le) (omega (arith, groups_length top room (n / 128)))
    ]

pub groups_some : (top room n : ℕ) → 1 ≤ length (groups top room n)
unfolding groups
groups_some top zero n = omega arith
groups_some top (suc room) n =
    elim (cases_lt n top) [
      | inl lt ↦ rw (groups_below top (suc room) n lt) (omega arith)
      | inr le ↦ rw (groups_from top room n le) (omega arith)
    ]

-- ---- how many bytes

pub size_of_u32 : (n : ℕ) → n < 2 ^ 32 → number_size n ≤ 5
size_of_u32 n h = rw (same_in_room 128 4 9 n (omega arith) (omega arith)) (groups_length 128 4 n)

groups_monotone : (top room m n : ℕ) → m ≤ n → length (groups top room m) ≤ length (groups top room n)
unfolding groups
groups_monotone top zero m n h = omega arith
groups_monotone top (suc room) m n h =
    elim (cases_lt m top) [
      | inl lt ↦ rw (groups_below top (suc room) m lt) (groups_some top (suc room) n)
      | inr le ↦
          rw (groups_from top room m le, groups_from top room n (omega arith))
          (let t : length (groups top room (m / 128)) ≤ length (groups top room (n / 128)) =
          groups_monotone top room (m / 128) (n / 128) (omega arith) in omega (arith, t))
    ]

-- a larger number has no shorter text
pub size_monotone : (m n : ℕ) → m ≤ n → number_size m ≤ number_size n
size_monotone m n h = groups_monotone 128 9 m n h

pub size_1 : (n : ℕ) → n < 128 → number_size n ≡ 1
size_1 n h = rw (groups_below 128 9 n h) refl

pub size_2 : (n : ℕ) → 128 ≤ n → n < 16384 → number_size n ≡ 2
size_2 n h l = rw (groups_from 128 8 n h, groups_below 128 8 (n / 128) (omega arith)) refl

-- the text of one byte
pub one_byte : (bytes : List ℕ) → 1 ≤ length bytes → length bytes < 2 → unsigned_text (length bytes) ++ bytes ≡ 1 ∷ slice_index bytes 0 ∷ []
one_byte [] some few = absurd (omega (arith, some))
one_byte (b ∷ []) some few = rw (groups_below 128 9 1 (omega arith)) refl
one_byte (b ∷ c ∷ bytes) some few = absurd (omega (arith, few))

-- a number of one byte in the place of a byte
pub put_over : (bytes : List ℕ) (start n : ℕ) → start < length bytes → n < 128
    → slice_set bytes start n ≡ take start bytes ++ unsigned_text n ++ drop (start + 1) bytes
put_over bytes start n within short =
    rw (groups_below 128 9 n short, add-one start, append_assoc (take start bytes) (n ∷ []) (drop (suc start) bytes)) (set_split bytes start n within)

-- the texts of two to five bytes
pub text_2 : (n : ℕ) → 128 ≤ n → n < 16384 → groups 128 9 n ≡ (n % 128 + 128) ∷ n / 128 ∷ []
text_2 n h l = rw (groups_from 128 8 n h, groups_below 128 8 (n / 128) (omega arith)) refl

pub text_3 : (n : ℕ) → 16384 ≤ n → n < 2097152 → groups 128 9 n ≡ (n % 128 + 128) ∷ (n / 128 % 128 + 128) ∷ n / 128 / 128 ∷ []
text_3 n h l = rw (groups_from 128 8 n (omega arith), groups_from 128 7 (n / 128) (omega arith), groups_below 128 7 (n / 128 / 128) (omega arith)) refl

pub text_4 : (n : ℕ) → 2097152 ≤ n → n < 268435456 → groups 128 9 n ≡ (n % 128 + 128) ∷ (n / 128 % 128 + 128) ∷ (n / 128 / 128 % 128 + 128)
    ∷ n / 128 / 128 / 128 ∷ []
text_4 n h l = rw (
  groups_from 128 8 n (omega arith),
  groups_from 128 7 (n / 128) (omega arith),
  groups_from 128 6 (n / 128 / 128) (omega arith),
  groups_below 128 6 (n / 128 / 128 / 128) (omega arith),
) refl

pub text_5 : (n : ℕ) → 268435456 ≤ n → n < 34359738368 → groups 128 9 n ≡ (n % 128 + 128) ∷ (n / 128 % 128 + 128)
    ∷ (n / 128 / 128 % 128 + 128) ∷ (n / 128 / 128 / 128 % 128 + 128) ∷ n / 128 / 128 / 128 / 128 ∷ []
text_5 n h l = rw (
  groups_from 128 8 n (omega arith),
  groups_from 128 7 (n / 128) (omega arith),
  groups_from 128 6 (n / 128 / 128) (omega arith),
  groups_from 128 5 (n / 128 / 128 / 128) (omega arith),
  groups_below 128 5 (n / 128 / 128 / 128 / 128) (omega arith),
) refl

-- the texts of one to three bytes, of signed numbers that are not negative
pub signed_below : (n : ℕ) → n < 64 → groups 64 9 n ≡ n ∷ []
signed_below n h = groups_below 64 9 n h

pub signed_2 : (n : ℕ) → 64 ≤ n → n < 8192 → groups 64 9 n ≡ (n % 128 + 128) ∷ n / 128 ∷ []
signed_2 n h l = rw (groups_from 64 8 n h, groups_below 64 8 (n / 128) (omega arith)) refl

pub signed_3 : (n : ℕ) → 8192 ≤ n → n < 1048576 → groups 64 9 n ≡ (n % 128 + 128) ∷ (n / 128 % 128 + 128) ∷ n / 128 / 128 ∷ []
signed_3 n h l = rw (groups_from 64 8 n (omega arith), groups_from 64 7 (n / 128) (omega arith), groups_below 64 7 (n / 128 / 128) (omega arith)) refl

pub size_3 : (n : ℕ) → 16384 ≤ n → n < 2097152 → number_size n ≡ 3
size_3 n h l = rw (groups_from 128 8 n (omega arith), groups_from 128 7 (n / 128) (omega arith), groups_below 128 7 (n / 128 / 128) (omega arith)) refl

pub size_4 : (n : ℕ) → 2097152 ≤ n → n < 268435456 → number_size n ≡ 4
size_4 n h l = rw (
  groups_from 128 8 n (omega arith),
  groups_from 128 7 (n / 128) (omega arith),
  groups_from 128 6 (n / 128 / 128) (omega arith),
  groups_below 128 6 (n / 128 / 128 / 128) (omega arith),
) refl

pub size_5 : (n : ℕ) → 268435456 ≤ n → n < 34359738368 → number_size n ≡ 5
size_5 n h l = rw (
  groups_from 128 8 n (omega arith),
  groups_from 128 7 (n / 128) (omega arith),
  groups_from 128 6 (n / 128 / 128) (omega arith),
  groups_from 128 5 (n / 128 / 128 / 128) (omega arith),
  groups_below 128 5 (n / 128 / 128 / 128 / 128) (omega arith),
) refl

pub size_at_most_5 : (n : ℕ) → n < 4294967296 → number_size n ≤ 5
size_at_most_5 n h =
    elim (cases_lt n 128) [
      | inl a ↦ rw (size_1 n a) (omega arith)
      | inr a ↦ elim (cases_lt n 16384) [
        | inl b ↦ rw (size_2 n a b) (omega arith)
        | inr b ↦ elim (cases_lt n 2097152) [
          | inl c ↦ rw (size_3 n b c) (omega arith)
          | inr c ↦ elim (cases_lt n 268435456) [
            | inl d ↦ rw (size_4 n c d) (omega arith)
            | inr d ↦ rw (size_5 n d (omega arith)) (omega arith)
          ]
        ]
      ]
    ]

pub signed_length : (z : ℤ) → length (signed_text z) ≤ 10
signed_length (pos n) = groups_length 64 9 n
signed_length (negsuc n) = omega (arith, length-map (groups 64 9 n) complement, groups_length 64 9 n)

-- ---- writing from the front

-- What is left of the number completes the whole.
pub record Writing (top : ℕ) (negative : Bool) (whole now : List ℕ) (rest : ℕ) : Type 0 where
  pub room : ℕ
  pub fits : rest < limit top room
  pub text : now ++ turned negative (groups top room rest) ≡ whole

turned_one : (negative : Bool) (b : ℕ) → turned negative (b ∷ []) ≡ cond negative (complement b) b ∷ []
turned_one false b = refl
turned_one true b = refl

turned_cons : (negative : Bool) (b : ℕ) (bs : List ℕ) → turned negative (b ∷ bs) ≡ cond negative (complement b) b ∷ turned negative bs
turned_cons false b bs = refl
turned_cons true b bs = refl

turned_some : (negative : Bool) (bs : List ℕ) → 1 ≤ length bs → 1 ≤ length (turned negative bs)
turned_some false bs h = h
turned_some true [] h = h
turned_some true (b ∷ bs) h = omega arith

pub writing_more : (top : ℕ) (negative : Bool) (whole now : List ℕ) (rest : ℕ) → 1 ≤ top → Writing top negative whole now rest → top ≤ rest
    → Writing top negative whole (now ++ cond negative (complement (rest % 128 + 128)) (rest % 128 + 128) ∷ []) (rest / 128)
writing_more top negative whole now rest t w h = from w.room w.fits w.text
  where
    from : (room : ℕ) → rest < limit top room → now ++ turned negative (groups top room rest) ≡ whole
        → Writing top negative whole (now ++ cond negative (complement (rest % 128 + 128)) (rest % 128 + 128) ∷ []) (rest / 128)
    from zero f e = absurd (omega arith)
    from (suc room) f e = record {
      room = room;
      fits = omega arith;
      text = append_assoc now (cond negative (complement (rest % 128 + 128)) (rest % 128 + 128) ∷ []) (turned negative (groups top room (rest / 128)))
          ∙ ap (λ (bs : List ℕ). now ++ bs) (sym (turned_cons negative (rest % 128 + 128) (groups top room (rest / 128)))
          ∙ ap (turned negative) (sym (groups_from top room rest h)))
          ∙ e;
    }

pub writing_last : (top : ℕ) (negative : Bool) (whole now : List ℕ) (rest : ℕ) → Writing top negative whole now rest → rest < top
    → now ++ cond negative (complement rest) rest ∷ [] ≡ whole
writing_last top negative whole now rest w h =
    ap (λ (bs : List ℕ). now ++ bs) (sym (turned_one negative rest) ∙ ap (turned negative) (sym (groups_below top w.room rest h))) ∙ w.text

pub writing_room : (top : ℕ) (negative : Bool) (whole now : List ℕ) (rest : ℕ) → Writing top negative whole now rest → length now < length whole
writing_room top negative whole now rest w =
    omega (
      arith,
      ap length w.text,
      length-append now (turned negative (groups top w.room rest)),
      turned_some negative (groups top w.room rest) (groups_some top w.room rest),
    )

-- what `auto` is given where a number is written
pub ruleset unsigned_texts = (groups_below, text_2, text_3)

pub ruleset signed_texts = (signed_below, signed_2, signed_3)

pub ruleset sizes = (size_1, size_2, size_3, size_4, size_5)
