-- Readers of the forms of numbers.
use Rattle.std.specs.Prelude.{ℕ, ℤ, pos, negsuc, zero, suc, ◌+◌, ◌*◌, ◌-◌, ◌^◌, List, [], ◌∷◌}
use Rattle.std.specs.Prelude.{Result, Ok, Err, if◌then◌else◌, nat_lt}
use Rattle.wenc_base.specs.Readers.{Flaw, Bad, Reader}

-- a byte from 128 on in front of what was found after it, where the number is below `bound`
abbrev pub raised : ℕ → ℕ → Result (ℕ × List ℕ) Flaw → Result (ℕ × List ℕ) Flaw
raised bound b (Ok x) =
    if nat_lt (b - 128 + 128 * x.0) bound then Ok (b - 128 + 128 * x.0, x.1) else Err Bad
raised bound b (Err flaw) = Err flaw

-- Reads groups of seven bits up to the last, which is below `top`. At most `room` bytes come
-- before it.
unfoldable pub read_groups : ℕ → ℕ → ℕ → Reader ℕ
read_groups top bound room [] = Err Bad
read_groups top bound zero (b ∷ bytes) = if nat_lt b top then Ok (b, bytes) else Err Bad
read_groups top bound (suc room) (b ∷ bytes) =
    if nat_lt b top then Ok (b, bytes)
    else (if nat_lt b 128 then Err Bad
    else (if nat_lt b 256 then raised bound b (read_groups top bound room bytes) else Err Bad))

-- a number of 32 bits
abbrev pub read_u32 : Reader ℕ
read_u32 = read_groups 128 (2 ^ 32) 4

-- a number of 64 bits
abbrev pub read_u64 : Reader ℕ
read_u64 = read_groups 128 (2 ^ 64) 9

-- an index in place of a signed number of 33 bits
abbrev pub read_index : Reader ℕ
read_index = read_groups 64 (2 ^ 32) 4

-- ---- signed numbers

-- a byte in front of the groups of a number
abbrev pub lower : ℕ → ℤ → ℤ
lower b (pos high) = pos (b - 128 + 128 * high)
lower b (negsuc high) = negsuc (255 - b + 128 * high)

unfoldable pub lowered : ℕ → Result (ℤ × List ℕ) Flaw → Result (ℤ × List ℕ) Flaw
lowered b (Ok x) = Ok (lower b x.0, x.1)
lowered b (Err flaw) = Err flaw

-- reads groups up to the last, whose bit 6 says whether the number is negative
unfoldable pub read_signed : Reader ℤ
read_signed [] = Err Bad
read_signed (b ∷ bytes) =
    if nat_lt b 64 then Ok (pos b, bytes)
    else (if nat_lt b 128 then Ok (negsuc (127 - b), bytes) else lowered b (read_signed bytes))
