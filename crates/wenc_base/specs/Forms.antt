-- Forms made of others (component model, binary format; WebAssembly 3.0, binary format,
-- "Conventions" and "Values").
use Rattle.std.specs.Prelude.{ℕ, ◌<◌, List, [], ◌++◌, length, Bool, if◌then◌else◌}
use Rattle.std.specs.Prelude.{Option, Some, None, IsUtf8}
use Rattle.wenc_base.specs.Piece.{Piece, Form, byte, ◌▸◌, ◌⨾◌, each, raw}
use Rattle.wenc_base.specs.Number.{u32, count, size}
use Rattle.std.specs.List.{AllByRecursion}

-- a flag
abbrev pub flag : Form Bool
flag holds = byte (if holds then 0x01 else 0x00)

-- the number of values, then each
abbrev pub list : {A : Type 0} → Form A → Form (List A)
list form vs = count (length vs) ⨾ each form vs

-- a byte that says whether there is a value, then the value
abbrev pub option : {A : Type 0} → Form A → Form (Option A)
option form None = byte 0x00
option form (Some v) = 0x01 ▸ form v

-- these bytes, which are UTF-8
abbrev pub utf8 : Form (List ℕ)
utf8 = raw IsUtf8

-- the number of bytes, then as many, which are UTF-8
abbrev pub name : Form (List ℕ)
name bs = size (length bs) ⨾ utf8 bs

-- Each of them is below 256.
abbrev pub AreBytes : List ℕ → Type 0
AreBytes = AllByRecursion (λ b. b < 256)

-- the number of bytes, then that many, which are all of it
abbrev pub sized : Piece → Piece
sized p = record (size (length p.text) ⨾ p) {
  Reads = λ mode bytes rest. (content : List ℕ) ×
      (u32 (length content)).Reads mode bytes (content ++ rest) × p.Reads mode content [];
}

-- the number of bytes, then the bytes
abbrev pub byte_list : Form (List ℕ)
byte_list bs = sized (raw AreBytes bs)

-- a counted section, after its id: the size, the number of items, the items
abbrev pub counted : {A : Type 0} → Form A → Form (List A)
counted form items = sized (list form items)
