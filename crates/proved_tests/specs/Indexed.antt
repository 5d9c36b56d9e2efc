-- The index of the item of a command that ran.
use Rattle.std.specs.Prelude.{◌≡◌, ℕ, List, [], ◌∷◌, ◌++◌, Some}
use Rattle.wenc_builder.specs.Entry.{Entry, items}
use Rattle.wenc_builder.specs.Space.{Indices, defines, next_index}
use Rattle.wasm_encoder.specs.Cause.{added}
use Rattle.wasm_encoder.specs.Command.{CommandTree}

-- The command's item is one of these, and this is its index: the number of indices that the items
-- before it define in its space.
pub record IsIndexedAt (c : CommandTree) (es : List Entry) (i : ℕ) : Type 0 where
  pub front : List Entry
  pub entry : Entry
  pub rest : List Entry
  pub split : es ≡ front ++ entry ∷ rest
  pub adds : added front c ≡ entry ∷ []
  pub indices : Indices
  pub defined : defines entry.item ≡ Some indices
  pub index : i ≡ next_index (items front) indices.space
