-- Custom sections (WebAssembly 3.0, binary format, "Custom Section").
use Rattle.std.specs.Prelude.{ℕ, List}
use Rattle.wenc_base.specs.Piece.{Form, raw, ◌⨾◌}
use Rattle.wenc_base.specs.Forms.{name, sized, AreBytes}

-- a name, and the data that belong to it
pub record Custom : Type 0 where
  pub label : List ℕ
  pub bytes : List ℕ

-- after its id: the size, the name, the data
abbrev pub custom : Form Custom
custom c = sized (name c.label ⨾ raw AreBytes c.bytes)
