-- The laws of the forms of numbers.
use Rattle.std.proofs.Common.{◌≡◌, ℕ, ℤ, pos, negsuc, zero, suc, ◌+◌, ◌*◌, ◌/◌, ◌%◌, ◌-◌, ◌^◌, ◌<◌}
use Rattle.std.proofs.Common.{◌≤◌, cond, List, [], ◌∷◌, ◌++◌, map, Result, Ok, Err, refl, ap, arith}
use Rattle.std.proofs.Common.{inl, inr}
use Rattle.std.proofs.lemmas.Bool.{cases_lt, le-ltb, lt-ltb}
use Rattle.std.specs.Int.{w64}
use Rattle.std.specs.Prelude.{FitsSigned}
use Rattle.wenc_base.specs.Piece.{Spelling, Wide, EndsWith}
use Rattle.wenc_base.specs.Number.{groups, complement, signed_text, ReadsGroups, last, more, number}
use Rattle.wenc_base.specs.Number.{u32, count, size, u64, i64, index}
use Rattle.wenc_base.specs.laws.Groups.{limit, groups_below, groups_from}
use Rattle.wenc_base.specs.Fault.{NoCause, count_cause, size_cause}
use Rattle.wenc_base.specs.declared.fault.Fault.TheVariants.{Memory, TooMany, TooLarge, Unfinished}
use Rattle.wenc_base.specs.Readers.{Flaw, Bad, Deep, Lawful}
use Rattle.wenc_base.specs.laws.Lawful.{Starts, refused_lawful}
use Rattle.wenc_base.specs.laws.Sound.{Told, Sound, weaken}
use Rattle.std.proofs.lemmas.List.{append-nil}
use Rattle.wenc_base.specs.reading.Numbers.{lowered, raised, read_groups, read_index, read_signed, read_u32, read_u64}

-- the text is the same in a larger room
pub same_in_room : (top room larger n : ℕ) → room ≤ larger → n < limit top room
    → groups top larger n ≡ groups top room n
unfolding groups
same_in_room top zero larger n le h = groups_below top larger n h
same_in_room top (suc room) zero n le h = absurd (omega arith)
same_in_room top (suc room) (suc larger) n le h =
    elim (cases_lt n top) [
      | inl lt ↦ rw (groups_below top (suc larger) n lt, groups_below top (suc room) n lt) refl
      | inr ge ↦ rw (
        groups_from top larger n ge,
        groups_from top room n ge,
        same_in_room top room larger (n / 128) (omega arith) (omega arith),
      ) refl
    ]

-- the text is groups that are read
groups_read : (top room n : ℕ) (rest : List ℕ) → n < limit top room
    → ReadsGroups top room n (groups top room n ++ rest) rest
unfolding groups
groups_read top zero n rest h = last h
groups_read top (suc room) n rest h =
    elim (cases_lt n top) [
      | inl lt ↦ rw (groups_below top (suc room) n lt) (last lt)
      | inr le ↦ rw (groups_from top room n le)
          (more {n = n} {b = n % 128 + 128} {high = n / 128} (omega arith) (omega arith) (omega arith)
          (groups_read top room (n / 128) rest (omega arith)))
    ]

-- the rest is left
groups_leave : (top room n : ℕ) (bytes rest : List ℕ) → ReadsGroups top room n bytes rest → EndsWith bytes rest
groups_leave top room n _ rest (last lt) = (n ∷ [], refl)
groups_leave top _ n _ rest (more {room = room} {b = b} {high = high} {bytes = bytes} low byte sum
    r) = let e = groups_leave top room high bytes rest r in
    (b ∷ e.0, ap (λ (t : List ℕ). b ∷ t) e.1)

-- it finds the number
groups_are_read : (top bound room n : ℕ) (bytes rest : List ℕ) → top ≤ 128 → n < bound
    → ReadsGroups top room n bytes rest → read_groups top bound room bytes ≡ Ok (n, rest)
unfolding read_groups
groups_are_read top bound zero n bytes rest small below (last lt) = rw (lt-ltb n top lt) refl
groups_are_read top bound (suc room) n bytes rest small below (last lt) = rw (lt-ltb n top lt) refl
groups_are_read top bound _ n _ rest small below
    (more {room = room} {b = b} {high = high} {bytes = bytes} low byte sum r) =
    let value : b - 128 + 128 * high ≡ n = omega arith in
    rw (
      le-ltb b top (omega arith),
      le-ltb b 128 low,
      lt-ltb b 256 byte,
      groups_are_read top bound room high bytes rest small (omega arith) r,
      value,
      lt-ltb n bound below,
    ) refl

-- What it finds is read: a number below the bound.
abbrev Found : ℕ → ℕ → ℕ → List ℕ → ℕ × List ℕ → Type 0
Found top bound room bytes x = (x.0 < bound) × ReadsGroups top room x.0 bytes x.1

raised_sound : (top bound room b : ℕ) (bytes : List ℕ) (found : Result (ℕ × List ℕ) Flaw) → 128 ≤ b
    → b < 256 → Told (Found top bound room bytes) ⊥ found
    → Told (Found top bound (suc room) (b ∷ bytes)) ⊥ (raised bound b found)
raised_sound top bound room b bytes (Err Bad) low high h = tt
raised_sound top bound room b bytes (Err Deep) low high h = h
raised_sound top bound room b bytes (Ok x) low high h =
    elim (cases_lt (b - 128 + 128 * x.0) bound) [
      | inl lt ↦ rw (lt-ltb (b - 128 + 128 * x.0) bound lt, cond)
          (lt, more {n = b - 128 + 128 * x.0} {b = b} {high = x.0} low high (omega arith) h.1)
      | inr ge ↦ rw (le-ltb (b - 128 + 128 * x.0) bound ge, cond) tt
    ]

found_groups : (top bound room : ℕ) (bytes : List ℕ) → top ≤ bound
    → Told (Found top bound room bytes) ⊥ (read_groups top bound room bytes)
unfolding read_groups
found_groups top bound zero [] le = tt
found_groups top bound (suc room) [] le = tt
found_groups top bound zero (b ∷ bytes) le =
    elim (cases_lt b top) [
      | inl lt ↦ rw (lt-ltb b top lt, cond) (omega arith, last lt)
      | inr ge ↦ rw (le-ltb b top ge, cond) tt
    ]
found_groups top bound (suc room) (b ∷ bytes) le =
    elim (cases_lt b top) [
      | inl lt ↦ rw (lt-ltb b top lt, cond) (omega arith, last lt)
      | inr ge ↦
          elim (cases_lt b 128) [
            | inl small ↦ rw (le-ltb b top ge, cond, lt-ltb b 128 small, cond) tt
            | inr low ↦
                elim (cases_lt b 256) [
                  | inl high ↦ rw (
                    le-ltb b top ge,
                    cond,
                    le-ltb b 128 low,
                    cond,
                    lt-ltb b 256 high,
                    cond,
                  ) (raised_sound top bound room b bytes (read_groups top bound room bytes)
                      low high (found_groups top bound room bytes le))
                  | inr big ↦ rw (le-ltb b top ge, cond, le-ltb b 128 low, cond, le-ltb b 256 big, cond) tt
                ]
          ]
    ]

groups_sound : (top bound room : ℕ) (bytes : List ℕ) → top ≤ bound
    → Told (λ (x : ℕ × List ℕ). (number top room bound x.0).Reads Wide bytes x.1) ⊥
    (read_groups top bound room bytes)
groups_sound top bound room bytes le = weaken (Found top bound room bytes)
    (λ (x : ℕ × List ℕ). (number top room bound x.0).Reads Wide bytes x.1) ⊥ ⊥
    (read_groups top bound room bytes) (λ x h. (h.0, inr (tt, h.1)))
    (λ e. e) (found_groups top bound room bytes le)

-- what is read of each form of numbers below a bound
number_groups : (mode : Spelling) (top room bound n : ℕ) (bytes rest : List ℕ) → room ≤ 9
    → bound ≤ limit top room → (number top room bound n).Reads mode bytes rest
    → ReadsGroups top room n bytes rest
number_groups mode top room bound n bytes rest le below r =
    let fits : n < limit top room = omega (arith, r.0) in
    elim r.1 [
      | inl e ↦ rw (e, same_in_room top room 9 n le fits) (groups_read top room n rest fits)
      | inr wide ↦ wide.1
    ]

pub u32_groups : (mode : Spelling) (n : ℕ) (bytes rest : List ℕ) → (u32 n).Reads mode bytes rest
    → ReadsGroups 128 4 n bytes rest
u32_groups mode n bytes rest r = number_groups mode 128 4 (2 ^ 32) n bytes rest (omega arith) (omega arith) r

number_lawful : (top room bound n : ℕ) → top ≤ 128 → room ≤ 9 → bound ≤ limit top room
    → Lawful (number top room bound n) (λ fuel. read_groups top bound room) n
number_lawful top room bound n small le below = record {
  text_is_read = λ mode rest h. (h, inl refl);
  strict_is_text = λ bytes rest r. elim r.1 [ inl e ↦ e | inr wide ↦ absurd wide.0 ];
  fits = λ bytes rest r. r.0;
  leaves = λ mode bytes rest r. groups_leave top room n bytes rest
      (number_groups mode top room bound n bytes rest le below r);
  free = λ h fault c. c;
  never = λ c. c;
  depth = 0;
  finds = λ fuel deep mode bytes rest r. groups_are_read top bound room n bytes rest small r.0
      (number_groups mode top room bound n bytes rest le below r);
}

pub u32_lawful : (n : ℕ) → Lawful (u32 n) (λ fuel. read_u32) n
u32_lawful n = number_lawful 128 4 (2 ^ 32) n (omega arith) (omega arith) (omega arith)

-- ---- counts and sizes

pub count_free : (n : ℕ) → n < 2 ^ 32 → NoCause (count_cause n)
count_free n h (Memory e) c = c
count_free n h TooMany c = absurd (omega (arith, h, c))
count_free n h TooLarge c = c
count_free n h Unfinished c = c

pub size_free : (n : ℕ) → n < 2 ^ 32 → NoCause (size_cause n)
size_free n h (Memory e) c = c
size_free n h TooMany c = c
size_free n h TooLarge c = absurd (omega (arith, h, c))
size_free n h Unfinished c = c

pub count_lawful : (n : ℕ) → Lawful (count n) (λ fuel. read_u32) n
count_lawful n = refused_lawful (count_cause n) (u32_lawful n) (count_free n) (λ c. c)

pub size_lawful : (n : ℕ) → Lawful (size n) (λ fuel. read_u32) n
size_lawful n = refused_lawful (size_cause n) (u32_lawful n) (size_free n) (λ c. c)

pub u32_sound : Sound u32 read_u32
u32_sound = record { tells = λ bytes. groups_sound 128 (2 ^ 32) 4 bytes (omega arith) }

pub u64_lawful : (n : ℕ) → Lawful (u64 n) (λ fuel. read_u64) n
u64_lawful n = number_lawful 128 9 (2 ^ 64) n (omega arith) (omega arith) (omega arith)

pub u64_sound : Sound u64 read_u64
u64_sound = record { tells = λ bytes. groups_sound 128 (2 ^ 64) 9 bytes (omega arith) }

pub index_lawful : (n : ℕ) → Lawful (index n) (λ fuel. read_index) n
index_lawful n = number_lawful 64 4 (2 ^ 32) n (omega arith) (omega arith) (omega arith)

pub index_sound : Sound index read_index
index_sound = record { tells = λ bytes. groups_sound 64 (2 ^ 32) 4 bytes (omega arith) }

-- an index begins with a byte below 64 or from 128 on
pub index_starts : (P : ℕ → Type 0) → ((b : ℕ) → b < 64 → P b) → ((b : ℕ) → 128 ≤ b → P b) → (n : ℕ)
    → Starts (index n) P
index_starts P low high n = record {
  starts = λ mode bytes rest r. first_byte 4 n bytes rest
      (number_groups mode 64 4 (2 ^ 32) n bytes rest (omega arith) (omega arith) r);
}
  where
    first_byte : (room n : ℕ) (bytes rest : List ℕ) → ReadsGroups 64 room n bytes rest
        → (b : ℕ) × (more : List ℕ) × (bytes ≡ b ∷ more) × P b
    first_byte room n _ rest (last lt) = (n, rest, refl, low n lt)
    first_byte _ n _ rest (more {b = b} {bytes = bytes} from byte sum r) = (b, bytes, refl, high b from)

-- ---- signed numbers

-- it finds a number from 0 on
pos_is_read : (room n : ℕ) (bytes rest : List ℕ) → ReadsGroups 64 room n bytes rest
    → read_signed bytes ≡ Ok (pos n, rest)
unfolding read_signed lowered
pos_is_read room n bytes rest (last lt) = rw (lt-ltb n 64 lt) refl
pos_is_read _ n _ rest (more {room = room} {b = b} {high = high} {bytes = bytes} low byte sum r) =
    let value : b - 128 + 128 * high ≡ n = omega arith in
    rw (le-ltb b 64 (omega arith), le-ltb b 128 low, pos_is_read room high bytes rest r, value) refl

-- and a number below 0, where the groups are turned over, and those after them
negsuc_is_read : (room n : ℕ) (front behind rest : List ℕ) → ReadsGroups 64 room n front behind
    → read_signed (map complement front ++ rest) ≡ Ok (negsuc n, map complement behind ++ rest)
unfolding read_signed lowered
negsuc_is_read room n front behind rest (last lt) =
    let value : 127 - (127 - n) ≡ n = omega arith in
    rw (lt-ltb n 128 (omega arith), le-ltb (127 - n) 64 (omega arith), lt-ltb (127 - n) 128 (omega arith), value) refl
negsuc_is_read _ n _ behind rest (more {room = room} {b = b} {high = high} {bytes = front} low byte sum r) =
    let value : 255 - (383 - b) + 128 * high ≡ n = omega arith in
    rw (
      le-ltb b 128 low,
      le-ltb (383 - b) 64 (omega arith),
      le-ltb (383 - b) 128 (omega arith),
      negsuc_is_read room high front behind rest r,
      value,
    ) refl

pub i64_lawful : (z : ℤ) → Lawful (i64 z) (λ fuel. read_signed) z
i64_lawful z = record {
  text_is_read = λ mode rest h. (h, refl);
  strict_is_text = λ bytes rest r. r.1;
  fits = λ bytes rest r. r.0;
  leaves = λ mode bytes rest r. (signed_text z, r.1);
  free = λ h fault c. c;
  never = λ c. c;
  depth = 0;
  finds = λ fuel le mode bytes rest r. rw r.1 (text_is_found z rest r.0);
}
  where
    text_is_found : (z : ℤ) (rest : List ℕ) → FitsSigned w64 z → read_signed (signed_text z ++ rest) ≡ Ok (z, rest)
    text_is_found (pos n) rest h = let fits : n < 2 ^ 63 = h.sfits in
        pos_is_read 9 n (groups 64 9 n ++ rest) rest (groups_read 64 9 n rest (omega arith))
    text_is_found (negsuc n) rest h = let fits : n < 2 ^ 63 = h.sfits in
        negsuc_is_read 9 n (groups 64 9 n) [] rest
        (rw append-nil at (groups_read 64 9 n [] (omega arith)))
