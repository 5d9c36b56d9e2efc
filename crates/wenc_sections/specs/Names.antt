-- The section of names (component model, binary format, "Name Section").
use Rattle.std.specs.Prelude.{◌≡◌, ℕ, ◌+◌, ◌≤◌, ◌^◌, List, [], ◌∷◌, ◌++◌, length, Result, OnOk, codes}
use Rattle.std.specs.List.{flat_map}
use Rattle.wenc_base.specs.Piece.{Piece, Form, byte, ◌▸◌, ◌⨾◌, verbatim, refused_for}
use Rattle.wenc_base.specs.Forms.{name, sized, byte_list}
use Rattle.wenc_base.specs.Custom.{Custom, custom}
use Rattle.wenc_base.specs.Encode.{Appends}
use Rattle.wenc_base.specs.Holder.{HolderState, held_text, Contains}
use Rattle.wenc_base.specs.Names.{NameAssociation, name_association, name_map}
use Rattle.wenc_base.specs.declared.fault.Fault.{Fault}
use Rattle.wenc_base.specs.declared.fault.Fault.TheVariants.{TooLarge}
use Rattle.wenc_sections.specs.declared.space.Space.{Space}
use Rattle.wenc_sections.specs.declared.space.Space.TheVariants.{CoreModules, CoreFuncs, CoreTypes}
use Rattle.wenc_sections.specs.declared.space.Space.TheVariants.{CoreMemories, CoreTables}
use Rattle.wenc_sections.specs.declared.space.Space.TheVariants.{CoreInstances, CoreTags}
use Rattle.wenc_sections.specs.declared.space.Space.TheVariants.{CoreGlobals, Funcs, Instances}
use Rattle.wenc_sections.specs.declared.space.Space.TheVariants.{Values, Components, Types}

-- the sort of the items in a space (component model, binary format, `sort` and `core:sort`)
abbrev pub item_sort : Form Space
item_sort CoreFuncs = 0x00 ▸ byte 0x00
item_sort CoreTables = 0x00 ▸ byte 0x01
item_sort CoreMemories = 0x00 ▸ byte 0x02
item_sort CoreGlobals = 0x00 ▸ byte 0x03
item_sort CoreTags = 0x00 ▸ byte 0x04
item_sort CoreTypes = 0x00 ▸ byte 0x10
item_sort CoreModules = 0x00 ▸ byte 0x11
item_sort CoreInstances = 0x00 ▸ byte 0x12
item_sort Funcs = byte 0x01
item_sort Values = byte 0x02
item_sort Types = byte 0x03
item_sort Components = byte 0x04
item_sort Instances = byte 0x05

-- ---- subsections

-- the component's own name, names of items in one space, or any bytes under any id
pub data Subsection : Type 0 where
  ComponentName : (name : List ℕ) → Subsection
  ItemNames : (space : Space) (names : List NameAssociation) → Subsection
  RawNames : (id : ℕ) (bytes : List ℕ) → Subsection

-- its id, its size, and these
abbrev pub subsection : Form Subsection
subsection (ComponentName text) = 0x00 ▸ sized (name text)
subsection (ItemNames space names) = 0x01 ▸ sized (item_sort space ⨾ name_map names)
subsection (RawNames id bytes) = id ▸ byte_list bytes

-- subsections one after the other
abbrev pub subsections_text : List Subsection → List ℕ
subsections_text ss = flat_map (λ s. (subsection s).text) ss

-- the names in a space that are held, which are taken as they are
abbrev pub held_subsection : Space → HolderState → Piece
held_subsection space held = 0x01 ▸ sized (item_sort space ⨾ verbatim (held_text held))

-- the names in a space, where it has some
abbrev pub item_names : Space → List NameAssociation → List Subsection
item_names space [] = []
item_names space (n ∷ ns) = ItemNames space (n ∷ ns) ∷ []

-- ---- the section

-- its name
abbrev pub names_label : List ℕ
names_label = codes "component-name"

-- the custom section of that name, with these bytes after it
abbrev pub names_custom : List ℕ → Custom
names_custom bytes = record { label = names_label; bytes = bytes }

-- It is never refused, since the code keeps as many bytes as have room.
abbrev pub names_section : Form (List ℕ)
names_section bytes = refused_for (λ fault. ⊥) (custom (names_custom bytes))

-- Why these bytes can't come after those: with its name, which has 15 bytes, the section would be
-- too large.
abbrev pub RoomCause : List ℕ → List ℕ → Fault → Type 0
RoomCause before text fault = (fault ≡ TooLarge) × (2 ^ 32 ≤ 15 + length (before ++ text))

-- A call appends this subsection, which fits, or is refused for a lack of room or memory and
-- changes nothing.
pub record AppendsSubsection (p : Piece) (old new : List ℕ)
    (outcome : Result (Unit {0}) Fault) : Type 0 where
  pub appended : Appends p.text (RoomCause old p.text) ⊥ old new outcome
  pub fits : OnOk outcome p.Fits

-- A call appends the names in a space that are held: as they are and, whatever names these are, as
-- their subsection.
pub record AppendsNames (space : Space) (held : HolderState) (old new : List ℕ)
    (outcome : Result (Unit {0}) Fault) : Type 0 where
  pub bytes : AppendsSubsection (held_subsection space held) old new outcome
  pub names : (ns : List NameAssociation) → Contains name_association held ns
      → AppendsSubsection (subsection (ItemNames space ns)) old new outcome
