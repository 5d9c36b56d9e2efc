use Rattle.std.proofs.Common.{refl, map}
use Rattle.std.specs.Option.{option_copied}
use Rattle.wenc_sections.specs.Prelude.{Instantiate, instantiate_listed, named_triple}
use Rattle.wenc_builder.specs.Prelude.{InstanceItem, instance_entry, kind_id}
use Rattle.wenc_builder.specs.declared.builder.kind.Kind.TheVariants as kinds
use Rattle.wenc_sections.specs.declared.space.Space.TheVariants as spaces
use Rattle.wenc_builder.proofs.Listed.{listed_enters}
use Rattle.wenc_builder.proofs.Texts.{item_piece}
use Rattle.wenc_builder.proofs.builder.ComponentBuilder.instantiate.Goals as goal

pub returns : goal.returns
returns g c =
    listed_enters g.I.Iterator.next_gives c.args.args c.args.self.now c.add_listed.new.self c.add_listed.result
    (λ vs. instance_entry (option_copied c.args.debug_name) (Instantiate c.args.component_index (map (named_triple g.S.Named.named) vs)))
    (kind_id kinds.Instance) spaces.Instances (option_copied c.args.debug_name) _
    (λ vs. record { section = refl; defined = refl; named = refl })
    (instantiate_listed g.S.Encode.piece g.S.Named.named g.met.S.Named.as_name c.args.component_index) c.add_listed.ensures

pub add_listed-requires-clause-whole : goal.add_listed-requires-clause-whole
add_listed-requires-clause-whole g c vs = item_piece
    (InstanceItem (Instantiate c.args.component_index (map (named_triple g.S.Named.named) vs)))
    (instantiate_listed g.S.Encode.piece g.S.Named.named g.met.S.Named.as_name c.args.component_index vs)
