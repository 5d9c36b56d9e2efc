use Rattle.std.proofs.Common.{refl}
use Rattle.wenc_builder.specs.Prelude.{CustomItem, custom_entry}
use Rattle.wenc_builder.proofs.Entered.{without_index_enters}
use Rattle.wenc_builder.proofs.Texts.{item_piece, custom_serves}
use Rattle.wenc_builder.proofs.builder.ComponentBuilder.custom_section.Goals as goal

pub returns : goal.returns
returns g c =
    without_index_enters c.args.self.now c.add_unindexed_section.new.self c.add_unindexed_section.result
    (custom_entry c.args.section.now.name.now c.args.section.now.data.now)
    (record { alone = refl; defined = refl; named = refl })
    (rw (c.into.ensures, c.whole.ensures) (custom_serves c.args.section.now.name.now c.args.section.now.data.now))
    c.add_unindexed_section.ensures

pub add_unindexed_section-requires : goal.add_unindexed_section-requires
add_unindexed_section-requires g c = rw (c.into.ensures, c.whole.ensures)
    (item_piece (CustomItem (record { label = c.args.section.now.name.now; bytes = c.args.section.now.data.now }))
    (custom_serves c.args.section.now.name.now c.args.section.now.data.now))
