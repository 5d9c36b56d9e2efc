-- The numbers' texts, in words.
use Rattle.std.proofs.Common.{◌≡◌, ℕ, ℤ, pos, negsuc, ◌-ℤ◌, zero, suc, ◌+◌, ◌-◌, ◌*◌, ◌/◌, ◌%◌, ◌^◌}
use Rattle.std.proofs.Common.{◌<◌, ◌≤◌, List, [], ◌∷◌, length, map, get_or, refl, sym, ap, ◌∙◌}
use Rattle.std.proofs.Common.{arith, inl, inr, w64, FitsSigned}
use Rattle.std.proofs.lemmas.Bool.{cases_lt, le-ltb, lt-ltb}
use Rattle.std.proofs.lemmas.Int.{ints}
use Rattle.wenc_base.specs.Number.{groups, complement, unsigned_text, signed_text, sum_from}
use Rattle.wenc_base.specs.Number.{last_of, signed_sum, AreGroups, IsUnsignedText, IsSignedText}
use Rattle.wenc_base.specs.laws.Groups.{limit, groups_below, groups_from}
use Rattle.std.proofs.Math.Nat.{pow-suc}
use Rattle.std.proofs.Math.IntN.{pos-ne-negsuc}
use Rattle.std.proofs.lemmas.List.{length-map}

-- ---- the relations by recursion

abbrev value : List ℕ → ℕ
value [] = 0
value (b ∷ bytes) = b % 128 + 128 * value bytes

abbrev last_byte : List ℕ → ℕ
last_byte [] = 0
last_byte (b ∷ []) = b
last_byte (b ∷ c ∷ bytes) = last_byte (c ∷ bytes)

-- groups whose last byte is below top
abbrev GoOn : ℕ → List ℕ → Type 0
GoOn top [] = ⊥
GoOn top (b ∷ []) = b < top
GoOn top (b ∷ c ∷ bytes) = (128 ≤ b) × (b < 256) × GoOn top (c ∷ bytes)

sum_from_is : (place : ℕ) (bytes : List ℕ) → sum_from place bytes ≡ value bytes * 128 ^ place
sum_from_is place [] = omega arith
sum_from_is place (b ∷ bytes) =
    rw (sum_from_is (suc place) bytes, pow-suc 128 place) (omega arith)

sum_is : (bytes : List ℕ) → sum_from 0 bytes ≡ value bytes
sum_is bytes = omega (arith, sum_from_is 0 bytes)

goes_on_of_groups : (bytes : List ℕ) → AreGroups bytes → GoOn 128 bytes
goes_on_of_groups bytes h = chain bytes h.some h.go_on h.end
  where
    chain : (bytes : List ℕ) → 0 < length bytes
        → ((k : ℕ) → k + 1 < length bytes → (128 ≤ get_or bytes k 0) × (get_or bytes k 0 < 256))
        → ((k : ℕ) → k + 1 ≡ length bytes → get_or bytes k 0 < 128) → GoOn 128 bytes
    chain [] some on end = absurd (omega arith)
    chain (b ∷ []) some on end = end 0 (omega arith)
    chain (b ∷ c ∷ bytes) some on end =
        let first = on 0 (omega arith) in (
          first.0,
          first.1,
          chain (c ∷ bytes) (omega arith) (λ k h. on (suc k) (omega arith))
              (λ k h. end (suc k) (omega arith)),
        )

groups_of_goes_on : (bytes : List ℕ) → GoOn 128 bytes → AreGroups bytes
groups_of_goes_on bytes h = record { some = some bytes h; go_on = on bytes h; end = end bytes h }
  where
    some : (bytes : List ℕ) → GoOn 128 bytes → 0 < length bytes
    some [] h = absurd h
    some (b ∷ bytes) h = omega arith

    on : (bytes : List ℕ) → GoOn 128 bytes → (k : ℕ) → k + 1 < length bytes
        → (128 ≤ get_or bytes k 0) × (get_or bytes k 0 < 256)
    on [] h k lt = absurd h
    on (b ∷ []) h k lt = absurd (omega arith)
    on (b ∷ c ∷ bytes) h zero lt = (h.0, h.1)
    on (b ∷ c ∷ bytes) h (suc k) lt = on (c ∷ bytes) h.2 k (omega arith)

    end : (bytes : List ℕ) → GoOn 128 bytes → (k : ℕ) → k + 1 ≡ length bytes → get_or bytes k 0 < 128
    end [] h k lt = absurd h
    end (b ∷ []) h zero lt = h
    end (b ∷ []) h (suc k) lt = absurd (omega arith)
    end (b ∷ c ∷ bytes) h zero lt = absurd (omega arith)
    end (b ∷ c ∷ bytes) h (suc k) lt = end (c ∷ bytes) h.2 k (omega arith)

-- ---- the text

goes_on_more : (top b : ℕ) (bytes : List ℕ) → 128 ≤ b → b < 256 → GoOn top bytes → GoOn top (b ∷ bytes)
goes_on_more top b [] low byte h = absurd h
goes_on_more top b (c ∷ bytes) low byte h = (low, byte, h)

text_goes_on : (top room n : ℕ) → top ≤ 128 → n < limit top room
    → GoOn top (groups top room n) × (value (groups top room n) ≡ n)
unfolding groups
text_goes_on top zero n t h = (h, omega arith)
text_goes_on top (suc room) n t h =
    elim (cases_lt n top) [
      | inl lt ↦ rw (groups_below top (suc room) n lt) (lt, omega arith)
      | inr le ↦
          let r = text_goes_on top room (n / 128) t (omega arith) in
          rw (groups_from top room n le) (goes_on_more top _ _ (omega arith) (omega arith) r.0, omega (arith, r.1))
    ]

text_is_shortest : (top room n : ℕ) (bytes : List ℕ) → top ≤ 128 → GoOn top bytes → value bytes ≡ n
    → length (groups top room n) ≤ length bytes
unfolding groups
text_is_shortest top room n [] t h e = absurd h
text_is_shortest top zero n (b ∷ bytes) t h e = omega arith
text_is_shortest top (suc room) n (b ∷ []) t h e = rw (groups_below top (suc room) n (omega arith)) (omega arith)
text_is_shortest top (suc room) n (b ∷ c ∷ bytes) t h e =
    elim (cases_lt n top) [
      | inl lt ↦ rw (groups_below top (suc room) n lt) (omega arith)
      | inr le ↦ rw (groups_from top room n le) (let r : length (groups top room (n / 128))
          ≤ length (c ∷ bytes) = text_is_shortest top room (n / 128) (c ∷ bytes) t h.2 (omega arith)
          in omega (arith, r))
    ]

same_groups : (top : ℕ) (a b : List ℕ) → top ≤ 128 → GoOn top a → GoOn top b → length a ≡ length b
    → value a ≡ value b → a ≡ b
same_groups top [] b t h k len e = absurd h
same_groups top a [] t h k len e = absurd k
same_groups top (x ∷ []) (y ∷ []) t h k len e = let same : x ≡ y = omega arith in cc
same_groups top (x ∷ []) (y ∷ z ∷ b) t h k len e = absurd (omega arith)
same_groups top (x ∷ w ∷ a) (y ∷ []) t h k len e = absurd (omega arith)
same_groups top (x ∷ w ∷ a) (y ∷ z ∷ b) t h k len e =
    let same : x ≡ y = omega arith in
    let tail : w ∷ a ≡ z ∷ b = same_groups top (w ∷ a) (z ∷ b) t h.2 k.2 (omega arith) (omega arith) in
    cc

-- what is no longer than the text and says the same is the text
only_text : (top room n : ℕ) (bytes : List ℕ) → top ≤ 128 → n < limit top room → GoOn top bytes
    → value bytes ≡ n → length bytes ≤ length (groups top room n) → bytes ≡ groups top room n
only_text top room n bytes t f h e short =
    let text = text_goes_on top room n t f in
    same_groups top bytes (groups top room n) t h text.0
    (omega (arith, short, text_is_shortest top room n bytes t h e)) (e ∙ sym text.1)

pub unsigned_is : (n : ℕ) → n < 2 ^ 64 → IsUnsignedText (unsigned_text n) n
unsigned_is n h =
    let text = text_goes_on 128 9 n (omega arith) (omega arith) in
    record {
      groups_of = groups_of_goes_on _ text.0;
      sum = sum_is (groups 128 9 n) ∙ text.1;
      shortest = λ other g e. text_is_shortest 128 9 n other (omega arith)
          (goes_on_of_groups other g) (sym (sum_is other) ∙ e);
    }

pub unsigned_only : (n : ℕ) (bytes : List ℕ) → n < 2 ^ 64 → IsUnsignedText bytes n → bytes ≡ unsigned_text n
unsigned_only n bytes h d =
    let text = unsigned_is n h in
    only_text 128 9 n bytes (omega arith) (omega arith) (goes_on_of_groups bytes d.groups_of)
    (sym (sum_is bytes) ∙ d.sum) (d.shortest (unsigned_text n) text.groups_of text.sum)

-- ---- groups turned over

complement_low : (b : ℕ) → b < 128 → complement b ≡ 127 - b
complement_low b h = rw (lt-ltb b 128 h) refl

complement_high : (b : ℕ) → 128 ≤ b → complement b ≡ 383 - b
complement_high b h = rw (le-ltb b 128 h) refl

turned_goes_on : (bytes : List ℕ) → GoOn 128 bytes → GoOn 128 (map complement bytes)
turned_goes_on [] h = absurd h
turned_goes_on (b ∷ []) h = rw (complement_low b h) (omega arith)
turned_goes_on (b ∷ c ∷ bytes) h = rw (complement_high b h.0) (omega arith, omega arith, turned_goes_on (c ∷ bytes) h.2)

turned_back : (bytes : List ℕ) → GoOn 128 bytes → map complement (map complement bytes) ≡ bytes
turned_back [] h = absurd h
turned_back (b ∷ []) h = rw (complement_low b h, complement_low (127 - b) (omega arith))
    (ap (λ (x : ℕ). x ∷ []) (omega arith))
turned_back (b ∷ c ∷ bytes) h =
    rw (complement_high b h.0, complement_high (383 - b) (omega arith), turned_back (c ∷ bytes) h.2)
    (ap (λ (x : ℕ). x ∷ c ∷ bytes) (omega arith))

turned_value : (bytes : List ℕ) → GoOn 128 bytes → value (map complement bytes) + value bytes + 1 ≡ 128 ^ length bytes
turned_value [] h = absurd h
turned_value (b ∷ []) h = rw (complement_low b h) (omega arith)
turned_value (b ∷ c ∷ bytes) h =
    let tail : value (map complement (c ∷ bytes)) + value (c ∷ bytes) + 1
    ≡ 128 ^ length (c ∷ bytes) = turned_value (c ∷ bytes) h.2 in
    rw (complement_high b h.0, pow-suc 128 (length (c ∷ bytes))) (omega (arith, tail))

turned_last_byte : (bytes : List ℕ) → GoOn 128 bytes → last_byte (map complement bytes) + last_byte bytes ≡ 127
turned_last_byte [] h = absurd h
turned_last_byte (b ∷ []) h = rw (complement_low b h) (omega arith)
turned_last_byte (b ∷ c ∷ bytes) h = turned_last_byte (c ∷ bytes) h.2

goes_on_below : (bytes : List ℕ) → GoOn 128 bytes → last_byte bytes < 64 → GoOn 64 bytes
goes_on_below [] h l = absurd h
goes_on_below (b ∷ []) h l = l
goes_on_below (b ∷ c ∷ bytes) h l = (h.0, h.1, goes_on_below (c ∷ bytes) h.2 l)

below_goes_on : (bytes : List ℕ) → GoOn 64 bytes → GoOn 128 bytes × (last_byte bytes < 64)
below_goes_on [] h = absurd h
below_goes_on (b ∷ []) h = (omega arith, h)
below_goes_on (b ∷ c ∷ bytes) h =
    let rest = below_goes_on (c ∷ bytes) h.2 in
    ((h.0, h.1, rest.0), rest.1)

-- ---- the sum of a signed number

word_at_end : (bytes : List ℕ) (k : ℕ) → k + 1 ≡ length bytes → get_or bytes k 0 ≡ last_byte bytes
word_at_end [] k e = refl
word_at_end (b ∷ []) zero e = refl
word_at_end (b ∷ []) (suc k) e = absurd (omega arith)
word_at_end (b ∷ c ∷ bytes) zero e = absurd (omega arith)
word_at_end (b ∷ c ∷ bytes) (suc k) e = word_at_end (c ∷ bytes) k (omega arith)

last_of_is : (bytes : List ℕ) → last_of bytes ≡ last_byte bytes
last_of_is [] = refl
last_of_is (b ∷ bytes) = word_at_end (b ∷ bytes) (length (b ∷ bytes) - 1) (omega arith)

sum_low : (bytes : List ℕ) → last_byte bytes < 64 → signed_sum bytes ≡ pos (value bytes)
sum_low bytes l = rw (last_of_is bytes, lt-ltb _ _ l, sum_is bytes) refl

sum_high : (bytes : List ℕ) → 64 ≤ last_byte bytes → signed_sum bytes ≡ pos (value bytes) -ℤ pos (128 ^ length bytes)
sum_high bytes l = rw (last_of_is bytes, le-ltb _ _ l, sum_is bytes) refl

difference_below_zero : (s p n : ℕ) → s + n + 1 ≡ p → pos s -ℤ pos p ≡ negsuc n
difference_below_zero s p n e = omega (arith, ints)

difference_is_below_zero : (s p n : ℕ) → pos s -ℤ pos p ≡ negsuc n → s + n + 1 ≡ p
difference_is_below_zero s p n e = omega (arith, ints)

same_pos : (s n : ℕ) → pos s ≡ pos n → s ≡ n
same_pos s n e = cc

-- what spells a number from 0 on
spells_pos : (bytes : List ℕ) (n : ℕ) → GoOn 128 bytes → signed_sum bytes ≡ pos n → GoOn 64 bytes × (value bytes ≡ n)
spells_pos bytes n h e =
    elim (cases_lt (last_byte bytes) 64) [
      | inl lt ↦ (goes_on_below bytes h lt, same_pos _ _ (sym (sum_low bytes lt) ∙ e))
      | inr le ↦
          let below : value (map complement bytes) + value bytes + 1 ≡ 128 ^ length bytes = turned_value bytes h in
          let below_zero : pos (value bytes) -ℤ pos (128 ^ length bytes)
          ≡ negsuc (value (map complement bytes)) = difference_below_zero (value bytes)
          (128 ^ length bytes) (value (map complement bytes)) (omega (arith, below)) in
          absurd (pos-ne-negsuc _ _ (sym e ∙ sum_high bytes le ∙ below_zero))
    ]

-- what spells a number below 0, turned over
spells_negsuc : (bytes : List ℕ) (n : ℕ) → GoOn 128 bytes → signed_sum bytes ≡ negsuc n
    → GoOn 64 (map complement bytes) × (value (map complement bytes) ≡ n)
spells_negsuc bytes n h e =
    elim (cases_lt (last_byte bytes) 64) [
      | inl lt ↦ absurd (pos-ne-negsuc _ _ (sym (sum_low bytes lt) ∙ e))
      | inr le ↦
          let all : value bytes + n + 1 ≡ 128 ^ length bytes =
          difference_is_below_zero (value bytes) (128 ^ length bytes) n
          (sym (sum_high bytes le) ∙ e) in (
            goes_on_below (map complement bytes) (turned_goes_on bytes h)
                (omega (arith, turned_last_byte bytes h)),
            omega (arith, all, turned_value bytes h),
          )
    ]

signed_is_pos : (n : ℕ) → n < 2 ^ 63 → IsSignedText (groups 64 9 n) (pos n)
signed_is_pos n h =
    let text = text_goes_on 64 9 n (omega arith) (omega arith) in
    let below = below_goes_on _ text.0 in
    record {
      groups_of = groups_of_goes_on _ below.0;
      sum = sum_low (groups 64 9 n) below.1 ∙ ap pos text.1;
      shortest = λ other g e. (let r = spells_pos other n (goes_on_of_groups other g) e in
          text_is_shortest 64 9 n other (omega arith) r.0 r.1);
    }

signed_is_negsuc : (n : ℕ) → n < 2 ^ 63 → IsSignedText (map complement (groups 64 9 n)) (negsuc n)
signed_is_negsuc n h =
    let text = text_goes_on 64 9 n (omega arith) (omega arith) in
    let below = below_goes_on _ text.0 in
    let all : value (map complement (groups 64 9 n)) + value (groups 64 9 n) + 1
    ≡ 128 ^ length (groups 64 9 n) = turned_value _ below.0 in
    let same : length (map complement (groups 64 9 n)) ≡ length (groups 64 9 n) =
    length-map (groups 64 9 n) complement in
    record {
      groups_of = groups_of_goes_on _ (turned_goes_on _ below.0);
      sum = sum_high (map complement (groups 64 9 n))
          (omega (arith, turned_last_byte (groups 64 9 n) below.0, below.1))
          ∙ rw same (difference_below_zero (value (map complement (groups 64 9 n)))
          (128 ^ length (groups 64 9 n)) n (omega (arith, all, text.1)));
      shortest = λ other g e. (
          let r = spells_negsuc other n (goes_on_of_groups other g) e in
          omega (
            arith,
            same,
            length-map other complement,
            text_is_shortest 64 9 n
                (map complement other) (omega arith) r.0 r.1,
          ));
    }

pub signed_is : (z : ℤ) → FitsSigned w64 z → IsSignedText (signed_text z) z
signed_is (pos n) h = signed_is_pos n h.sfits
signed_is (negsuc n) h = signed_is_negsuc n h.sfits

pub signed_only : (z : ℤ) (bytes : List ℕ) → FitsSigned w64 z → IsSignedText bytes z → bytes ≡ signed_text z
signed_only (pos n) bytes h d =
    let text = signed_is_pos n h.sfits in
    let r = spells_pos bytes n (goes_on_of_groups bytes d.groups_of) d.sum in
    let fits : n < 2 ^ 63 = h.sfits in
    only_text 64 9 n bytes (omega arith) (omega arith) r.0 r.1 (d.shortest (groups 64 9 n) text.groups_of text.sum)
signed_only (negsuc n) bytes h d =
    let text = signed_is_negsuc n h.sfits in
    let g = goes_on_of_groups bytes d.groups_of in
    let r = spells_negsuc bytes n g d.sum in
    let fits : n < 2 ^ 63 = h.sfits in
    let short : length bytes ≤ length (map complement (groups 64 9 n)) =
    d.shortest (map complement (groups 64 9 n)) text.groups_of text.sum in
    let same : map complement bytes ≡ groups 64 9 n = only_text 64 9 n (map complement bytes)
    (omega arith) (omega arith) r.0 r.1
    (omega (arith, short, length-map bytes complement, length-map (groups 64 9 n) complement)) in
    sym (turned_back bytes g) ∙ ap (map complement) same
