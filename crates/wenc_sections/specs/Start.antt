-- Starts (component model, binary format, "Start Definitions").
use Rattle.std.specs.Prelude.{ℕ, List}
use Rattle.wenc_base.specs.Piece.{Form, ◌⨾◌}
use Rattle.wenc_base.specs.Number.{u32}
use Rattle.wenc_base.specs.Forms.{list, sized}

-- a function that is called with these arguments when the component is instantiated, and the number
-- of its results
pub record Start : Type 0 where
  pub function : ℕ
  pub arguments : List ℕ
  pub results : ℕ

abbrev pub started : ℕ → List ℕ → ℕ → Start
started function arguments results =
    record { function = function; arguments = arguments; results = results }

abbrev pub start_content : Form Start
start_content s = u32 s.function ⨾ list u32 s.arguments ⨾ u32 s.results

-- after the section's id: the size, then these
abbrev pub start : Form Start
start s = sized (start_content s)
