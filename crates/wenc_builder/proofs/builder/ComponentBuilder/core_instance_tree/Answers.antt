use Rattle.std.proofs.Common.{refl}
use Rattle.wenc_base.specs.Prelude.{serves_itself}
use Rattle.wenc_builder.specs.Prelude.{CoreInstanceItem, core_instance_entry, kind_id}
use Rattle.std.specs.Option.{option_copied}
use Rattle.wenc_sections.specs.Prelude.{core_instance_tree_view}
use Rattle.wenc_builder.specs.declared.builder.kind.Kind.TheVariants as kinds
use Rattle.wenc_sections.specs.declared.space.Space.TheVariants as spaces
use Rattle.wenc_builder.proofs.Entered.{new_item_enters}
use Rattle.wenc_builder.proofs.Texts.{item_piece}
use Rattle.wenc_builder.proofs.builder.ComponentBuilder.core_instance_tree.Goals as goal

pub returns : goal.returns
returns g c =
    new_item_enters c.args.self.now c.add.new.self c.add.result
    (core_instance_entry (option_copied c.args.debug_name) (core_instance_tree_view c.args.instance.now))
    (kind_id kinds.CoreInstance) spaces.CoreInstances (option_copied c.args.debug_name)
    (record { section = refl; defined = refl; named = refl }) serves_itself c.add.ensures

pub add-requires : goal.add-requires
add-requires g c = item_piece (CoreInstanceItem (core_instance_tree_view c.args.instance.now)) serves_itself
