-- Words of a line, none of which is empty.
use Rattle.std.specs.Prelude.{ℕ, if◌then◌else◌, List, [], ◌∷◌, Option, Some, None}
use Rattle.wenc_parts.specs.declared.exports.ComponentExportKind.{ComponentExportKind}
use Rattle.wasm_encoder.specs.Command.{CommandTree}
use Rattle.wenc.specs.Script.{has_empty}
use Rattle.wenc.specs.Fields.{kind, number_word}

-- what words say, if none is empty
abbrev pub unless_word_empty : (List (List ℕ) → Option CommandTree) → List (List ℕ)
    → Option CommandTree
unless_word_empty says words = if has_empty words then None else says words

-- two values, where there are both
abbrev pub both : {A B : Type 0} → Option A → Option B → Option (A × B)
both None y = None
both (Some x) None = None
both (Some x) (Some y) = Some (x, y)

-- the kind and the index of an item with a name, which isn't empty
abbrev pub kind_and_index : List ℕ → List ℕ → List ℕ → Option (ComponentExportKind × ℕ)
kind_and_index [] k i = None
kind_and_index (b ∷ name) k i = both (kind k) (number_word i)
