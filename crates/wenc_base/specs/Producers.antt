-- Producers sections (tool conventions, "Producers Section").
use Rattle.std.specs.Prelude.{◌≡◌, ℕ, ◌+◌, ◌≤◌, ◌^◌, List, [], ◌∷◌, ◌++◌, length}
use Rattle.wenc_base.specs.Piece.{Piece, Form, refused_for, ◌⨾◌}
use Rattle.wenc_base.specs.Forms.{name, list, sized}
use Rattle.wenc_base.specs.Fault.{either}
use Rattle.wenc_base.specs.Holder.{HolderState, held_members, content_size, EncodeCause}
use Rattle.wenc_base.specs.declared.fault.Fault.{Fault}
use Rattle.wenc_base.specs.declared.fault.Fault.TheVariants.{TooLarge}

-- a tool, and its version
pub record Producer : Type 0 where
  pub tool : List ℕ
  pub version : List ℕ

abbrev pub producer : Form Producer
producer p = name p.tool ⨾ name p.version

-- what the tools did, and the tools
pub record Producers : Type 0 where
  pub field : List ℕ
  pub tools : List Producer

abbrev pub producers_field : Form Producers
producers_field f = name f.field ⨾ list producer f.tools

-- "producers"
abbrev pub producers_label : List ℕ
producers_label = 0x70 ∷ 0x72 ∷ 0x6f ∷ 0x64 ∷ 0x75 ∷ 0x63 ∷ 0x65 ∷ 0x72 ∷ 0x73 ∷ []

-- the custom section of that name, whose data are a list of fields
abbrev pub producers_section : Form (List Producers)
producers_section fields = sized (name producers_label ⨾ list producers_field fields)

-- the producers section, where its fields are held
abbrev pub producers_held : HolderState → Piece
producers_held h =
    refused_for (EncodeCause h) (sized (name producers_label ⨾ held_members h))

-- a field with the tools that are held
abbrev pub held_field : List ℕ → HolderState → Piece
held_field field tools = name field ⨾ held_members tools

-- Why such a field can't be added: for its own cause, or since the section's size would be no
-- number of 32 bits.
abbrev pub FieldCause : HolderState → List ℕ → HolderState → Fault → Type 0
FieldCause h field tools = either (held_field field tools).Cause (λ fault. (fault ≡ TooLarge) ×
    (2 ^ 32 ≤ 10 + content_size (h.count + 1) (length (h.body ++ (held_field field tools).text))))
