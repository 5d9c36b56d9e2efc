use Rattle.std.proofs.Common.{refl}
use Rattle.wenc_base.specs.Prelude.{serves_itself}
use Rattle.wenc_builder.specs.Prelude.{AliasItem, alias_entry, kind_id}
use Rattle.std.specs.Option.{option_copied}
use Rattle.wenc_parts.specs.Prelude.{alias_view}
use Rattle.wenc_builder.specs.declared.builder.kind.Kind.TheVariants as kinds
use Rattle.wenc_builder.proofs.Entered.{new_item_enters}
use Rattle.wenc_builder.proofs.Texts.{item_piece}
use Rattle.wenc_builder.proofs.builder.ComponentBuilder.alias.Goals as goal

pub returns : goal.returns
returns g c =
    new_item_enters c.args.self.now c.add.new.self c.add.result (alias_entry (option_copied c.args.debug_name) (alias_view c.args.alias))
    (kind_id kinds.Alias) c.of_alias.result (option_copied c.args.debug_name)
    (record { section = refl; defined = rw c.of_alias.ensures refl; named = refl }) serves_itself c.add.ensures

pub add-requires : goal.add-requires
add-requires g c = rw c.of_alias.ensures (item_piece (AliasItem (alias_view c.args.alias)) serves_itself)
