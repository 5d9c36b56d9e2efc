use Rattle.std.proofs.Common.{refl}
use Rattle.wenc_builder.specs.Prelude.{RawItem, raw_entry}
use Rattle.wenc_builder.proofs.Texts.{raw_serves}
use Rattle.wenc_builder.proofs.Entered.{without_index_enters}
use Rattle.wenc_builder.proofs.Texts.{item_piece}
use Rattle.wenc_builder.proofs.builder.ComponentBuilder.raw_custom_section.Goals as goal

pub returns : goal.returns
returns g c =
    without_index_enters c.args.self.now c.add_unindexed_section.new.self c.add_unindexed_section.result (raw_entry c.args.section.now)
    (record { alone = refl; defined = refl; named = refl }) (rw (c.into.ensures, c.whole.ensures) (raw_serves c.args.section.now))
    c.add_unindexed_section.ensures

pub add_unindexed_section-requires : goal.add_unindexed_section-requires
add_unindexed_section-requires g c = rw (c.into.ensures, c.whole.ensures) (item_piece (RawItem c.args.section.now) (raw_serves c.args.section.now))
