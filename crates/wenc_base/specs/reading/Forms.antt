-- Readers of forms made of others.
use Rattle.std.specs.Prelude.{ℕ, Bool, true, false, List, [], ◌∷◌, length, take, drop, Option, Some, None}
use Rattle.std.specs.Prelude.{Result, Ok, Err, nat_lt, if◌then◌else◌}
use Rattle.std.specs.Str.{is_utf8}
use Rattle.wenc_base.specs.Readers.{Flaw, Bad, made, Reader, ◌>>=◌, give, nowhere, times, choose}
use Rattle.wenc_base.specs.reading.Numbers.{read_u32}

-- ---- flags

abbrev pub read_flag : Reader Bool
read_flag = choose ((0, give false) ∷ (1, give true) ∷ []) nowhere

-- ---- lists

abbrev pub read_list : {A : Type 0} → Reader A → Reader (List A)
read_list read = read_u32 >>= times read

-- ---- options

abbrev pub read_option : {A : Type 0} → Reader A → Reader (Option A)
read_option read = choose ((0, give None) ∷ (1, read >>= λ v. give (Some v)) ∷ []) nowhere

-- ---- names

-- this many bytes, which are UTF-8
unfoldable pub text_at : ℕ → Reader (List ℕ)
text_at n bytes =
    if nat_lt (length bytes) n then Err Bad
    else (if is_utf8 (take n bytes) then Ok (take n bytes, drop n bytes) else Err Bad)

abbrev pub read_text : ℕ → Reader (List ℕ)
read_text n bytes = text_at n bytes

abbrev pub read_name : Reader (List ℕ)
read_name = read_u32 >>= read_text

-- ---- with a size

-- this many bytes, which are all that is read
abbrev pub read_filling : {A : Type 0} → (List ℕ → Result A Flaw) → ℕ → Reader A
read_filling read n bytes =
    if nat_lt (length bytes) n then Err Bad
    else made (λ v. (v, drop n bytes)) (read (take n bytes))

abbrev pub read_sized : {A : Type 0} → (List ℕ → Result A Flaw) → Reader A
read_sized read = read_u32 >>= read_filling read

-- ---- lists of bytes

abbrev pub are_bytes : List ℕ → Bool
are_bytes [] = true
are_bytes (b ∷ bytes) = if nat_lt b 256 then are_bytes bytes else false

-- any bytes
abbrev pub read_bytes : {A : Type 0} → (List ℕ → A) → List ℕ → Result A Flaw
read_bytes make bytes = if are_bytes bytes then Ok (make bytes) else Err Bad

abbrev pub read_raw : List ℕ → Result (List ℕ) Flaw
read_raw = read_bytes (λ bytes. bytes)

abbrev pub read_byte_list : Reader (List ℕ)
read_byte_list = read_sized read_raw
