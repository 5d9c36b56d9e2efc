-- An option of a name as the code writes it.
use Rattle.std.specs.Prelude.{ℕ, List, Option, Some, None}
use Rattle.wenc_base.specs.Piece.{Form, nothing, ◌▸◌}
use Rattle.wenc_base.specs.Forms.{name}

-- an option after its number, or nothing if there is none
abbrev pub option_entry : ℕ → Form (Option (List ℕ))
option_entry number None = nothing
option_entry number (Some text) = number ▸ name text
