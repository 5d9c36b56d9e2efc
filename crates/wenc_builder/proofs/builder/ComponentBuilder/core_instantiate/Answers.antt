use Rattle.std.proofs.Common.{ℕ, List, refl, map}
use Rattle.std.specs.Borrow.{Bor}
use Rattle.std.specs.Option.{option_copied}
use Rattle.wenc_base.specs.Prelude.{Form, name, serves_itself}
use Rattle.wenc_sections.specs.Prelude.{CoreInstantiate, core_instantiate_listed, named_pair}
use Rattle.wenc_builder.specs.Prelude.{CoreInstanceItem, core_instance_entry, kind_id}
use Rattle.wenc_builder.specs.declared.builder.kind.Kind.TheVariants as kinds
use Rattle.wenc_sections.specs.declared.space.Space.TheVariants as spaces
use Rattle.wenc_builder.proofs.Listed.{listed_enters}
use Rattle.wenc_builder.proofs.Texts.{item_piece}
use Rattle.wenc_builder.proofs.builder.ComponentBuilder.core_instantiate.Goals as goal

abbrev text : Form (Bor (List ℕ))
text s = name s.now

abbrev now : Bor (List ℕ) → List ℕ
now s = s.now

pub returns : goal.returns
returns g c =
    listed_enters g.I.Iterator.next_gives c.args.args c.args.self.now c.add_listed.new.self c.add_listed.result
    (λ vs. core_instance_entry (option_copied c.args.debug_name) (CoreInstantiate c.args.module_index (map (named_pair now) vs)))
    (kind_id kinds.CoreInstance) spaces.CoreInstances (option_copied c.args.debug_name) _
    (λ vs. record { section = refl; defined = refl; named = refl }) (core_instantiate_listed text now
    (λ s. serves_itself) c.args.module_index) c.add_listed.ensures

pub add_listed-requires-clause-whole : goal.add_listed-requires-clause-whole
add_listed-requires-clause-whole g c vs = item_piece (CoreInstanceItem (CoreInstantiate c.args.module_index (map (named_pair now) vs)))
    (core_instantiate_listed text now (λ s. serves_itself) c.args.module_index vs)
