-- Why no text is read.
use Rattle.std.specs.Prelude.{ℕ, ◌-◌, List, length, take, nat_lt, if◌then◌else◌, Result, Ok, Err}
use Rattle.std.specs.Str.Lossy.{utf8_valid_len}
use Rattle.wenc_base.specs.Readers.{Flaw}
use Rattle.wenc_base.specs.reading.Numbers.{read_u32}
use Rattle.wenc_read.specs.Refusals.{expected_at, number_error}
use Rattle.wenc_read.specs.declared.expected.Expected.TheVariants.{Bytes, Utf8}
use Rattle.wenc_read.specs.declared.refusal.Refusal.{Refusal}

-- Why so many bytes are no text: there are fewer, or what follows their longest front that is UTF-8
-- isn't.
abbrev pub text_error : ℕ → List ℕ → Refusal
text_error size bytes = if nat_lt (length bytes) size then expected_at bytes (Bytes size)
    else record { left = length bytes - utf8_valid_len (take size bytes); expected = Utf8 }

-- the same after a number, if there is one
abbrev pub error_after : Refusal → Result (ℕ × List ℕ) Flaw → Refusal
error_after error (Ok x) = text_error x.0 x.1
error_after error (Err flaw) = error

-- Why no name is read: no number begins the bytes, or no text of so many bytes follows.
abbrev pub name_error : List ℕ → Refusal
name_error bytes = error_after (number_error 128 32 bytes 4 bytes) (read_u32 bytes)
