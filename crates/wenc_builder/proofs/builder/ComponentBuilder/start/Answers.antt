use Rattle.std.proofs.Common.{refl}
use Rattle.wenc_builder.specs.Prelude.{StartItem, entry, indices_in}
use Rattle.std.proofs.Common.{None}
use Rattle.wenc_sections.specs.Prelude.{started}
use Rattle.wenc_sections.specs.declared.space.Space.TheVariants as spaces
use Rattle.wenc_builder.proofs.Entered.{alone_enters}
use Rattle.wenc_builder.proofs.Texts.{item_piece, plain_serves}
use Rattle.wenc_builder.proofs.builder.ComponentBuilder.start.Goals as goal

pub returns : goal.returns
returns g c =
    alone_enters c.args.self.now c.add_section.new.self c.add_section.result
    (entry (StartItem (started c.args.function_index (g.V.AsSlice.items c.args.args) c.args.results)) None)
    (indices_in spaces.Values c.args.results) None
    (record { alone = refl; defined = refl; named = refl }) (rw (c.into.ensures, c.as_slice.ensures, c.whole.ensures) plain_serves) c.add_section.ensures

pub add_section-requires-clause-whole : goal.add_section-requires-clause-whole
add_section-requires-clause-whole g c = rw (c.into.ensures, c.as_slice.ensures, c.whole.ensures)
    (item_piece (StartItem (started c.args.function_index (g.V.AsSlice.items c.args.args) c.args.results)) plain_serves)
