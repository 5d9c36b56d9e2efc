-- Readers of custom sections.
use Rattle.std.specs.Prelude.{ℕ, List, Result}
use Rattle.wenc_base.specs.Readers.{Flaw, go_on}
use Rattle.wenc_base.specs.reading.Forms.{read_name, read_bytes}
use Rattle.wenc_base.specs.Custom.{Custom}

abbrev pub labelled_section : List ℕ → List ℕ → Custom
labelled_section label bytes = record { label = label; bytes = bytes }

-- a name, and the data that belong to it
abbrev pub read_custom_content : List ℕ → Result Custom Flaw
read_custom_content content =
    go_on (read_name content) (λ label. read_bytes (labelled_section label))
