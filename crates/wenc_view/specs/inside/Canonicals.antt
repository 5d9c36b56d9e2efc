-- A byte that has one value, two fields of a row, and the table of opcodes in parts.
use Rattle.std.specs.Prelude.{ℕ, List, [], ◌∷◌, drop}
use Rattle.wenc_base.specs.Readers.{Reader}
use Rattle.wenc_canon.specs.Canonicals.{Index, Options, Zero, Values}
use Rattle.wenc_canon.specs.Canonicals.{Canonical}
use Rattle.wenc_canon.specs.reading.Canonicals.{read_field, read_fields, rows}

abbrev pub read_zero : Reader (Unit {0})
read_zero = read_field Zero

-- two fields of a row

abbrev pub read_ty_and_options : Reader (Values (Index ∷ Options ∷ []))
read_ty_and_options = read_fields (Index ∷ Options ∷ [])

abbrev pub read_waited_memory : Reader (Values (Zero ∷ Index ∷ []))
read_waited_memory = read_fields (Zero ∷ Index ∷ [])

-- the table from the rows of streams on
abbrev pub stream_rows : List (ℕ × Reader Canonical)
stream_rows = drop 12 rows

-- from the rows of futures on
abbrev pub future_rows : List (ℕ × Reader Canonical)
future_rows = drop 19 rows

-- from the rows of error contexts on
abbrev pub error_context_rows : List (ℕ × Reader Canonical)
error_context_rows = drop 26 rows

-- from the rows of threads on
abbrev pub thread_rows : List (ℕ × Reader Canonical)
thread_rows = drop 36 rows

-- from the rows of those that forward on
abbrev pub forward_rows : List (ℕ × Reader Canonical)
forward_rows = drop 44 rows
