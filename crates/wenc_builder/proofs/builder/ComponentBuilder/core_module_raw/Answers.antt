use Rattle.std.proofs.Common.{refl}
use Rattle.wenc_parts.specs.Prelude.{section_number}
use Rattle.wenc_parts.specs.declared.component.ComponentSectionId.TheVariants as ids
use Rattle.wenc_builder.specs.Prelude.{ModuleItem, indices_in, module_entry}
use Rattle.std.specs.Option.{option_copied}
use Rattle.wenc_sections.specs.declared.space.Space.TheVariants as spaces
use Rattle.wenc_builder.proofs.Entered.{alone_enters}
use Rattle.wenc_builder.proofs.Texts.{item_piece, bytes_serve}
use Rattle.wenc_builder.proofs.builder.ComponentBuilder.core_module_raw.Goals as goal

pub returns : goal.returns
returns g c =
    alone_enters c.args.self.now c.add_section.new.self c.add_section.result
    (module_entry (option_copied c.args.debug_name) c.args.bytes.now) (indices_in spaces.CoreModules 1) (option_copied c.args.debug_name)
    (record { alone = refl; defined = refl; named = refl })
    (rw (c.into.ensures, c.whole-bytes.ensures) (bytes_serve (section_number ids.CoreModule) c.args.bytes.now)) c.add_section.ensures

pub add_section-requires-clause-whole : goal.add_section-requires-clause-whole
add_section-requires-clause-whole g c = rw (c.into.ensures, c.whole-bytes.ensures)
    (item_piece (ModuleItem c.args.bytes.now) (bytes_serve (section_number ids.CoreModule) c.args.bytes.now))
