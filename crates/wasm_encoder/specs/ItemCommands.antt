-- Items as the commands that add them.
use Rattle.std.specs.Prelude.{ℕ, List, Option, Some, None}
use Rattle.wenc_builder.specs.Entry.{entry, canonical_name}
use Rattle.wenc_builder.specs.Item.{Item, CanonItem, ImportItem, ExportItem}
use Rattle.wasm_encoder.specs.Command.{CommandTree, Add}

-- the debug name of an item whose call takes none
abbrev pub own_name : Item → Option (List ℕ)
own_name (CanonItem function) = canonical_name None function
own_name (ImportItem import) = Some import.name.name
own_name (ExportItem export) = Some export.name.name
own_name item = None

-- the command that adds this item, without a debug name; a nested component by its bytes
abbrev pub command_of : Item → CommandTree
command_of item = Add (entry item (own_name item))
