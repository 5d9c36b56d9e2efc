-- Readers of sections and of what is in them.
use Rattle.std.specs.Prelude.{ℕ, List, [], ◌∷◌, length, take, drop, Result, Ok}
use Rattle.std.specs.Prelude.{Err, nat_eq, nat_lt, if◌then◌else◌}
use Rattle.wenc_base.specs.reading.Forms.{read_raw}
use Rattle.wenc_base.specs.inside.Sections.{read_custom_content}
use Rattle.wenc_base.specs.Readers.{Flaw, Bad, Reader, go_on, ◌>>=◌, give, nowhere, made}
use Rattle.wenc_base.specs.reading.Numbers.{read_u32}
use Rattle.wenc_builder.specs.Item.{Item, ModuleItem, CoreInstanceItem, CoreTypeItem, ComponentItem}
use Rattle.wenc_builder.specs.Item.{InstanceItem, AliasItem, TypeItem, CanonItem, StartItem}
use Rattle.wenc_builder.specs.Item.{ImportItem, ExportItem, CustomItem}
use Rattle.wenc_builder.specs.Sections.{collects}
use Rattle.wenc_canon.specs.reading.Canonicals.{read_canonical}
use Rattle.wenc_types.specs.reading.ComponentTypes.{read_type}
use Rattle.wenc_parts.specs.reading.Aliases.{read_alias}
use Rattle.wenc_sections.specs.inside.Items.{read_import, read_inline_export}
use Rattle.wenc_sections.specs.reading.Items.{read_core_instance, read_instance}
use Rattle.wenc_sections.specs.reading.Items.{read_start_content}
use Rattle.wenc_types.specs.reading.CoreTypes.{read_core_type}

-- ---- items

abbrev pub read_core_instance_item : Reader Item
read_core_instance_item = read_core_instance >>= λ i. give (CoreInstanceItem i)

abbrev pub read_core_type_item : Reader Item
read_core_type_item = read_core_type >>= λ t. give (CoreTypeItem t)

abbrev pub read_instance_item : Reader Item
read_instance_item = read_instance >>= λ i. give (InstanceItem i)

abbrev pub read_alias_item : Reader Item
read_alias_item = read_alias >>= λ to. give (AliasItem to)

abbrev pub read_type_item : ℕ → Reader Item
read_type_item depth = read_type depth >>= λ t. give (TypeItem t)

abbrev pub read_canonical_item : Reader Item
read_canonical_item = read_canonical >>= λ f. give (CanonItem f)

abbrev pub read_import_item : Reader Item
read_import_item = read_import >>= λ i. give (ImportItem i)

abbrev pub read_export_item : Reader Item
read_export_item = read_inline_export >>= λ e. give (ExportItem e)

-- each kind's reader, by the id of the section that collects it
abbrev pub content_rows : ℕ → List (ℕ × Reader Item)
content_rows depth =
    (2, read_core_instance_item) ∷
    (3, read_core_type_item) ∷
    (5, read_instance_item) ∷
    (6, read_alias_item) ∷
    (7, read_type_item depth) ∷
    (8, read_canonical_item) ∷
    (10, read_import_item) ∷
    (11, read_export_item) ∷ []

abbrev pub content_row_of : {A : Type 0} → List (ℕ × Reader A) → ℕ → Reader A
content_row_of [] id = nowhere
content_row_of (row ∷ table) id = if nat_eq id row.0 then row.1 else content_row_of table id

abbrev pub read_content_item : ℕ → ℕ → Reader Item
read_content_item depth id = content_row_of (content_rows depth) id

-- ---- what fills a section

-- one item, made from all bytes
abbrev pub whole_item : {A : Type 0} → (A → Item) → Result A Flaw → Result (Item × List ℕ) Flaw
whole_item make found = made (λ v. (make v, [])) found

-- the item that begins here in the content of the section with this id
abbrev pub read_item_in : ℕ → ℕ → Reader Item
read_item_in depth id bytes =
    if nat_eq id 0 then whole_item CustomItem (read_custom_content bytes)
    else if nat_eq id 1 then whole_item ModuleItem (read_raw bytes)
    else if nat_eq id 4 then whole_item ComponentItem (read_raw bytes)
    else if nat_eq id 9 then (read_start_content >>= λ s. give (StartItem s)) bytes
    else read_content_item depth id bytes

-- the number of items in the content of a section with this id, and their bytes
abbrev pub read_count : ℕ → Reader ℕ
read_count id content = if collects id then read_u32 content else Ok (1, content)

-- ---- sections

-- the id, at most 11, and the content of the section that begins here
abbrev pub read_frame : Reader (ℕ × List ℕ)
read_frame [] = Err Bad
read_frame (id ∷ bytes) =
    if nat_lt 11 id then Err Bad
    else go_on (read_u32 bytes)
    (λ size rest. if nat_lt (length rest) size then Err Bad
    else Ok ((id, take size rest), drop size rest))
