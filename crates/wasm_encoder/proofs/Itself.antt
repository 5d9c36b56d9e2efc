-- What the command adds that an item becomes.
use Rattle.std.proofs.Common.{◌≡◌, List, [], ◌∷◌, refl}
use Rattle.wenc_builder.specs.Prelude.{Entry, Item, items}
use Rattle.wasm_encoder.specs.Prelude.{added, command_of}

pub added_alone : (es : List Entry) (x : Item) → items (added es (command_of x)) ≡ x ∷ []
added_alone es x = refl
