-- Numbers in groups of seven bits, the lowest first (LEB128: WebAssembly 3.0, binary format,
-- "Integers").
use Rattle.std.specs.Prelude.{◌≡◌, ◌⊎◌, ℕ, ℤ, pos, negsuc, ◌-ℤ◌, zero, suc, ◌+◌, ◌-◌, ◌*◌, ◌/◌, ◌%◌, ◌^◌}
use Rattle.std.specs.Prelude.{◌<◌, ◌≤◌, nat_lt, if◌then◌else◌, slice_index, Bool, true, false}
use Rattle.std.specs.Prelude.{length, List, [], ◌∷◌, ◌++◌, map, FitsSigned}
use Rattle.std.specs.Int.{w64}
use Rattle.wenc_base.specs.Fault.{count_cause, size_cause}
use Rattle.wenc_base.specs.Piece.{Form, IsWide, raw, refused_for, verbatim}

-- A number below top is one byte. Another has its low seven bits first, in a byte from 128 on.
-- At most `room` bytes come before the last.
unfoldable pub groups : ℕ → ℕ → ℕ → List ℕ
groups top zero n = n ∷ []
groups top (suc room) n =
    if nat_lt n top then n ∷ [] else ((n % 128 + 128) ∷ groups top room (n / 128))

-- an unsigned number of up to 64 bits: the last byte has seven bits
abbrev pub unsigned_text : ℕ → List ℕ
unsigned_text n = groups 128 9 n

-- the seven bits of a byte turned over
abbrev pub complement : ℕ → ℕ
complement b = if nat_lt b 128 then 127 - b else 383 - b

-- these bytes, or those with all groups turned over
abbrev pub turned : Bool → List ℕ → List ℕ
turned false bytes = bytes
turned true bytes = map complement bytes

-- A signed number of up to 64 bits: the last byte has six bits and the sign. `negsuc n` is -1 - n,
-- whose bits are those of n turned over.
abbrev pub signed_text : ℤ → List ℕ
signed_text (pos n) = groups 64 9 n
signed_text (negsuc n) = turned true (groups 64 9 n)

-- ---- reading

-- The bytes are n in groups of seven bits, the lowest ones first, and then the rest. The last group
-- is below top, and at most room others come before it.
pub data ReadsGroups (top : ℕ) : ℕ → ℕ → List ℕ → List ℕ → Type 0 where
  last : {room b : ℕ} {rest : List ℕ} → b < top → ReadsGroups top room b (b ∷ rest) rest
  more : {room n b high : ℕ} {bytes rest : List ℕ} → 128 ≤ b → b < 256
      → n + 128 ≡ b + 128 * high
      → ReadsGroups top room high bytes rest
      → ReadsGroups top (suc room) n (b ∷ bytes) rest

-- A number below a bound, whose last byte is below top. Its text is the shortest; widely read are
-- texts that have at most room bytes before the last.
abbrev pub number : ℕ → ℕ → ℕ → Form ℕ
number top room bound n = record (verbatim (groups top 9 n)) {
  Fits = n < bound;
  Reads = λ mode bytes rest. (n < bound) ×
      ((bytes ≡ groups top 9 n ++ rest) ⊎ (IsWide mode × ReadsGroups top room n bytes rest));
}

-- a number of 32 bits in at most five bytes
abbrev pub u32 : Form ℕ
u32 = number 128 4 (2 ^ 32)

-- the number of values
abbrev pub count : Form ℕ
count n = refused_for (count_cause n) (u32 n)

-- the number of bytes
abbrev pub size : Form ℕ
size n = refused_for (size_cause n) (u32 n)

-- a number of 64 bits in at most ten bytes
abbrev pub u64 : Form ℕ
u64 = number 128 9 (2 ^ 64)

-- an index, written as a signed number: the last byte has six bits and the sign
abbrev pub index : Form ℕ
index = number 64 4 (2 ^ 32)

-- a signed number of 64 bits in at most ten bytes, which has no other spelling
abbrev pub i64 : Form ℤ
i64 z = raw (λ text. FitsSigned w64 z) (signed_text z)

-- the number of bytes in the text of a number
abbrev pub number_size : ℕ → ℕ
number_size n = length (unsigned_text n)

-- ---- the texts in words

-- The sum of the low seven bits of each byte, times 128 for each byte before it. `place` bytes come
-- before these.
abbrev pub sum_from : ℕ → List ℕ → ℕ
sum_from place [] = 0
sum_from place (b ∷ bytes) = (b % 128) * 128 ^ place + sum_from (suc place) bytes

-- All bytes but the last are from 128 to 255, and the last is below 128.
pub record AreGroups (bytes : List ℕ) : Type 0 where
  pub some : 0 < length bytes
  pub go_on : (k : ℕ) → k + 1 < length bytes
      → (128 ≤ slice_index bytes k) × (slice_index bytes k < 256)
  pub end : (k : ℕ) → k + 1 ≡ length bytes → slice_index bytes k < 128

-- the last byte
abbrev pub last_of : List ℕ → ℕ
last_of bytes = slice_index bytes (length bytes - 1)

-- The sum, with 128 to the number of bytes taken off where bit 6 of the last byte is set.
abbrev pub signed_sum : List ℕ → ℤ
signed_sum bytes =
    if nat_lt (last_of bytes) 64 then pos (sum_from 0 bytes)
    else (pos (sum_from 0 bytes) -ℤ pos (128 ^ length bytes))

-- groups that sum to n, and no shorter list does the same
pub record IsUnsignedText (bytes : List ℕ) (n : ℕ) : Type 0 where
  pub groups_of : AreGroups bytes
  pub sum : sum_from 0 bytes ≡ n
  pub shortest : (other : List ℕ) → AreGroups other → sum_from 0 other ≡ n
      → length bytes ≤ length other

-- groups that sum to the signed number z, and no shorter list does the same
pub record IsSignedText (bytes : List ℕ) (z : ℤ) : Type 0 where
  pub groups_of : AreGroups bytes
  pub sum : signed_sum bytes ≡ z
  pub shortest : (other : List ℕ) → AreGroups other → signed_sum other ≡ z
      → length bytes ≤ length other
