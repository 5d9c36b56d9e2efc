-- Readers of the section of names.
use Rattle.std.specs.Prelude.{ℕ, List}
use Rattle.wenc_base.specs.reading.Forms.{read_name, read_sized, read_bytes}
use Rattle.wenc_base.specs.Readers.{Reader, go_on}

abbrev pub read_names_section : Reader (List ℕ)
read_names_section =
    read_sized (λ content. go_on (read_name content) (λ label. read_bytes (λ bytes. bytes)))
