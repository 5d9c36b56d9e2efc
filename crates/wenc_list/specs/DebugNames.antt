-- Content after an id and a size, in a section of names and in a core module (component model,
-- binary format, "Name Section"; WebAssembly 3.0, binary format, "Sections").
use Rattle.std.specs.Prelude.{ℕ, ◌≤◌, List, [], ◌∷◌, length, take, drop, Result, Ok, Err}
use Rattle.std.specs.Prelude.{nat_eq, nat_lt, if◌then◌else◌}
use Rattle.wenc_base.specs.Forms.{byte_list}
use Rattle.wenc_base.specs.Names.{NameAssociation}
use Rattle.wenc_base.specs.Piece.{Form, ◌▸◌, only_where}
use Rattle.wenc_base.specs.Readers.{Flaw, Bad, Reader, go_on, ◌>>=◌, give, nowhere, choose, done}
use Rattle.wenc_base.specs.Readers.{made}
use Rattle.wenc_base.specs.reading.Forms.{read_name, read_list}
use Rattle.wenc_base.specs.reading.Numbers.{read_u32}
use Rattle.wenc_sections.specs.Names.{Subsection, ComponentName, ItemNames, RawNames}
use Rattle.wenc_sections.specs.Names.{subsection}
use Rattle.wenc_sections.specs.declared.space.Space.{Space}
use Rattle.wenc_sections.specs.declared.space.Space.TheVariants.{CoreModules, CoreFuncs, CoreTypes}
use Rattle.wenc_sections.specs.declared.space.Space.TheVariants.{CoreMemories, CoreTables}
use Rattle.wenc_sections.specs.declared.space.Space.TheVariants.{CoreInstances, CoreTags}
use Rattle.wenc_sections.specs.declared.space.Space.TheVariants.{CoreGlobals, Funcs, Instances}
use Rattle.wenc_sections.specs.declared.space.Space.TheVariants.{Values, Components, Types}
use Rattle.wenc_view.specs.Members.{Place, list_view, place_of}
use Rattle.wenc_list.specs.declared.debug_names.ItemName.{ItemName}
use Rattle.wenc_list.specs.declared.debug_names.Names.{Names}
use Rattle.wenc_list.specs.declared.debug_names.Names.TheVariants as names

-- ---- what is after an id and a size

-- any id, and any bytes after their size
abbrev pub part : Form (ℕ × List ℕ)
part p = p.0 ▸ byte_list p.1

-- any id, and as many bytes as the size says
abbrev pub read_part : Reader (ℕ × List ℕ)
read_part [] = Err Bad
read_part (id ∷ bytes) = go_on (read_u32 bytes)
    (λ size rest. if nat_lt (length rest) size then Err Bad
    else Ok ((id, take size rest), drop size rest))

-- ---- names

-- It is raw only if its id has no content of its own.
abbrev pub IsById : Subsection → Type 0
IsById (ComponentName name) = Unit {0}
IsById (ItemNames sort names) = Unit {0}
IsById (RawNames id bytes) = 2 ≤ id

-- a subsection as its id says
abbrev pub subsection_by_id : Form Subsection
subsection_by_id s = only_where (IsById s) (subsection s)

abbrev pub read_item_name : Reader NameAssociation
read_item_name = read_u32 >>= λ index. read_name >>= λ text.
    give (record { index = index; name = text })

abbrev pub item_name_view : ItemName → NameAssociation
item_name_view n = record { index = n.index; name = n.name.now }

abbrev pub names_view : Names → Subsection
names_view (names.Component name) = ComponentName name.now
names_view (names.Items space names) = ItemNames space (list_view read_item_name names)
names_view (names.Raw id bytes) = RawNames id bytes.now

-- where the names of items are
abbrev pub names_lists : Names → List Place
names_lists (names.Items space names) = place_of read_item_name names ∷ []
names_lists other = []

abbrev pub read_core_sort : Reader Space
read_core_sort = choose ((0x00, give CoreFuncs) ∷ (0x01, give CoreTables) ∷
    (0x02, give CoreMemories) ∷ (0x03, give CoreGlobals) ∷ (0x04, give CoreTags) ∷
    (0x10, give CoreTypes) ∷ (0x11, give CoreModules) ∷ (0x12, give CoreInstances) ∷ []) nowhere

abbrev pub read_sort : Reader Space
read_sort = choose ((0x00, read_core_sort) ∷ (0x01, give Funcs) ∷ (0x02, give Values) ∷
    (0x03, give Types) ∷ (0x04, give Components) ∷ (0x05, give Instances) ∷ []) nowhere

abbrev pub read_item_names : Reader Subsection
read_item_names = read_sort >>= λ space. read_list read_item_name >>= λ ns.
    give (ItemNames space ns)

-- the names that fill a subsection with this id, or its bytes
abbrev pub read_names_in : ℕ → List ℕ → Result Subsection Flaw
read_names_in id content =
    if nat_eq id 0 then made ComponentName (done read_name content)
    else if nat_eq id 1 then done read_item_names content
    else Ok (RawNames id content)

abbrev pub read_names : Reader Subsection
read_names bytes = go_on (read_part bytes)
    (λ part rest. made (λ s. (s, rest)) (read_names_in part.0 part.1))
