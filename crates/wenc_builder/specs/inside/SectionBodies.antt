-- Separate sections as they are written: a lead, then bytes as they are.
use Rattle.std.specs.Prelude.{ℕ, List, length, ◌++◌}
use Rattle.wenc_base.specs.Forms.{AreBytes, name}
use Rattle.wenc_base.specs.Number.{size}
use Rattle.wenc_base.specs.Piece.{Piece, ◌⨾◌, raw}

abbrev pub with_bytes : Piece → List ℕ → Piece
with_bytes lead bytes = lead ⨾ raw AreBytes bytes

-- the size of a custom section with this name and these data, and the name
abbrev pub custom_lead : List ℕ → List ℕ → Piece
custom_lead label bytes = size (length ((name label).text ++ bytes)) ⨾ name label
