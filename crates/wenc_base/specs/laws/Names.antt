-- The laws of name maps.
use Rattle.std.proofs.Common.{◌≡◌, ℕ, List, refl}
use Rattle.wenc_base.specs.Holder.{HolderState, held_text, Contains}
use Rattle.wenc_base.specs.Names.{NameAssociation, name_association, name_map}
use Rattle.wenc_base.specs.laws.Forms.{name_lawful}
use Rattle.wenc_base.specs.reading.Forms.{read_name}
use Rattle.wenc_base.specs.Readers.{Lawful, Reader, ◌>>=◌, give}
use Rattle.wenc_base.specs.laws.Lawful.{then, last}
use Rattle.wenc_base.specs.laws.Numbers.{u32_lawful}
use Rattle.wenc_base.specs.reading.Numbers.{read_u32}

abbrev named_so : ℕ → List ℕ → NameAssociation
named_so index name = record { index = index; name = name }

abbrev pub read_name_association : Reader NameAssociation
read_name_association = read_u32 >>= λ index. read_name >>= λ name. give (named_so index name)

pub name_association_lawful : (n : NameAssociation) → Lawful (name_association n) (λ fuel. read_name_association) n
name_association_lawful n = then _ (u32_lawful n.index) (last (named_so n.index) (name_lawful n.name))

-- what is held of these names is their map
pub held_names : (held : HolderState) (ns : List NameAssociation)
    → Contains name_association held ns → held_text held ≡ (name_map ns).text
held_names held ns holds = rw (← holds.count, holds.body) refl
