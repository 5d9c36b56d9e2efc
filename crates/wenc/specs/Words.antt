-- The words that are left of a line.
use Rattle.std.specs.Option.{option_copied}
use Rattle.std.specs.Prelude.{ℕ, List}
use Rattle.wenc.specs.Parts.{parted_rest}
use Rattle.wenc.specs.declared.words.Words.{Words}

abbrev pub words_left : Words → List (List ℕ)
words_left w = parted_rest 32 (option_copied w.rest)
