-- What a function returns that reads types that may nest.
use Rattle.std.specs.Prelude.{◌≡◌, Result, Ok, Err}
use Rattle.wenc_base.specs.Readers.{Flaw}
use Rattle.wenc_read.specs.Gives.{flaw_of}
use Rattle.wenc_read.specs.declared.refusal.NestedRefusal.{NestedRefusal}

abbrev pub GivesNested : {X A : Type 0} → (X → A) → Result X NestedRefusal → Result A Flaw
    → Type 0
GivesNested view (Ok x) found = found ≡ Ok (view x)
GivesNested view (Err refusal) found = found ≡ Err (flaw_of refusal)
