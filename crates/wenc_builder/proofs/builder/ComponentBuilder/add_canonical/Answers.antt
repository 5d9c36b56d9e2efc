use Rattle.std.proofs.Common.{refl}
use Rattle.wenc_base.specs.Prelude.{serves_itself}
use Rattle.wenc_builder.specs.Prelude.{CanonItem, canonical_entry, kind_id}
use Rattle.std.specs.Option.{option_copied}
use Rattle.wenc_sections.specs.Prelude.{canon_view}
use Rattle.wenc_builder.specs.declared.builder.kind.Kind.TheVariants as kinds
use Rattle.wenc_builder.proofs.Entered.{new_item_enters}
use Rattle.wenc_builder.proofs.Texts.{item_piece}
use Rattle.wenc_builder.proofs.builder.ComponentBuilder.add_canonical.Goals as goal

pub returns : goal.returns
returns g c =
    new_item_enters c.args.self.now c.add.new.self c.add.result
    (canonical_entry (option_copied c.args.name) (canon_view c.args.function.now)) (kind_id kinds.CanonicalFunction) c.args.space
    (option_copied c.args.name)
    (record { section = refl; defined = rw c.requires refl; named = refl }) serves_itself c.add.ensures

pub add-requires : goal.add-requires
add-requires g c = rw (← c.requires) (item_piece (CanonItem (canon_view c.args.function.now)) serves_itself)
