use Rattle.std.proofs.Common.{refl, map}
use Rattle.std.specs.Option.{option_copied}
use Rattle.wenc_parts.specs.Prelude.{extern_name_view}
use Rattle.wenc_sections.specs.Prelude.{Exports, exports_listed, named_triple}
use Rattle.wenc_builder.specs.Prelude.{InstanceItem, instance_entry, kind_id}
use Rattle.wenc_builder.specs.declared.builder.kind.Kind.TheVariants as kinds
use Rattle.wenc_sections.specs.declared.space.Space.TheVariants as spaces
use Rattle.wenc_builder.proofs.Listed.{listed_enters}
use Rattle.wenc_builder.proofs.Texts.{item_piece}
use Rattle.wenc_builder.proofs.builder.ComponentBuilder.instantiate_exports.Goals as goal

pub returns : goal.returns
returns g c =
    listed_enters g.I.Iterator.next_gives c.args.exports c.args.self.now c.add_listed.new.self c.add_listed.result
    (λ vs. instance_entry (option_copied c.args.debug_name) (Exports (map (named_triple extern_name_view) vs)))
    (kind_id kinds.Instance) spaces.Instances (option_copied c.args.debug_name) _
    (λ vs. record { section = refl; defined = refl; named = refl }) (exports_listed extern_name_view) c.add_listed.ensures

pub add_listed-requires-clause-whole : goal.add_listed-requires-clause-whole
add_listed-requires-clause-whole g c vs = item_piece (InstanceItem (Exports (map (named_triple extern_name_view) vs))) (exports_listed extern_name_view vs)
