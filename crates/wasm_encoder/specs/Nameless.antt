-- Commands as the code makes them.
use Rattle.wenc_builder.specs.Entry.{StartIsNameless}
use Rattle.wasm_encoder.specs.Command.{CommandTree, Add}

-- it doesn't add a start with a debug name
abbrev pub AddsNameless : CommandTree → Type 0
AddsNameless (Add x) = StartIsNameless x
AddsNameless c = Unit {0}
