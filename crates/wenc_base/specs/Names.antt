-- Names of items, by their indices (WebAssembly 3.0, binary format, "Name Maps"; component model,
-- binary format, "Name Section").
use Rattle.std.specs.Prelude.{ℕ, List}
use Rattle.std.specs.List.{flat_map}
use Rattle.wenc_base.specs.Piece.{Form, ◌⨾◌}
use Rattle.wenc_base.specs.Number.{u32}
use Rattle.wenc_base.specs.Forms.{name as name_form, list}

-- a name, and the index of what it names
pub record NameAssociation : Type 0 where
  pub index : ℕ
  pub name : List ℕ

-- as it is in a name map
abbrev pub name_association : Form NameAssociation
name_association n = u32 n.index ⨾ name_form n.name

-- names one after the other
abbrev pub names_text : List NameAssociation → List ℕ
names_text ns = flat_map (λ n. (name_association n).text) ns

-- the number of names, then each
abbrev pub name_map : Form (List NameAssociation)
name_map ns = list name_association ns
