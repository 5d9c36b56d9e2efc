use Rattle.std.proofs.Common.{refl}
use Rattle.wenc_parts.specs.Prelude.{section_number}
use Rattle.wenc_parts.specs.declared.component.ComponentSectionId.TheVariants as ids
use Rattle.wenc_builder.specs.Prelude.{ComponentItem, component_entry, indices_in}
use Rattle.std.specs.Option.{option_copied}
use Rattle.wenc_sections.specs.declared.space.Space.TheVariants as spaces
use Rattle.wenc_builder.proofs.Entered.{alone_enters}
use Rattle.wenc_builder.proofs.Texts.{item_piece, bytes_serve}
use Rattle.wenc_builder.proofs.builder.ComponentBuilder.component_raw.Goals as goal

pub returns : goal.returns
returns g c =
    alone_enters c.args.self.now c.add_section.new.self c.add_section.result
    (component_entry (option_copied c.args.debug_name) c.args.component.now) (indices_in spaces.Components 1)
    (option_copied c.args.debug_name)
    (record { alone = refl; defined = refl; named = refl })
    (rw (c.into.ensures, c.whole-bytes.ensures) (bytes_serve (section_number ids.Component) c.args.component.now)) c.add_section.ensures

pub add_section-requires-clause-whole : goal.add_section-requires-clause-whole
add_section-requires-clause-whole g c = rw (c.into.ensures, c.whole-bytes.ensures)
    (item_piece (ComponentItem c.args.component.now) (bytes_serve (section_number ids.Component) c.args.component.now))
