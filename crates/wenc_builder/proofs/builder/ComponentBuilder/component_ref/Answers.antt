use Rattle.std.proofs.Common.{◌≡◌, ◌∙◌, refl, sym}
use Rattle.std.specs.Option.{option_copied}
use Rattle.wenc_parts.specs.Prelude.{section_number}
use Rattle.wenc_parts.specs.declared.component.ComponentSectionId.TheVariants as ids
use Rattle.wenc_builder.specs.Prelude.{ComponentItem, component_entry, indices_in, items}
use Rattle.wenc_builder.specs.Prelude.{sections_text, spaced, whole}
use Rattle.wenc_sections.specs.declared.space.Space.TheVariants as spaces
use Rattle.wenc_builder.proofs.Entered.{alone_enters}
use Rattle.wenc_builder.proofs.Standing.{writing_none}
use Rattle.wenc_builder.proofs.Texts.{item_piece, bytes_serve}
use Rattle.wenc_builder.proofs.Viewed.{finished_is}
use Rattle.wenc_builder.proofs.builder.ComponentBuilder.component_ref.Goals as goal

pub returns-clause-entered : goal.returns-clause-entered
returns-clause-entered g c es h =
    let n = c.component in
    let bytes : sections_text n.inside.buffer.settled ≡ whole (items es) = (rw (← n.view_is) at h).sections.bytes in
    alone_enters c.args.self.now c.add_section.new.self c.add_section.result
    (component_entry (option_copied c.args.debug_name) (whole (items es))) (indices_in spaces.Components 1)
    (option_copied c.args.debug_name)
    (record { alone = refl; defined = refl; named = refl })
    (rw (c.into.ensures, c.len.ensures, c.ready-bytes.ensures, bytes) (bytes_serve (section_number ids.Component) (whole (items es))))
    c.add_section.ensures

pub ready-bytes-requires : goal.ready-bytes-requires
ready-bytes-requires g c =
    let n = c.component in
    writing_none n.inside.buffer (finished_is n.inside.buffer (spaced n.inside.spaces n.inside.undo) c.args.component.now n.invariant.0.agree
    n.view_is
    ∙ sym c.if-not-is_finished.ensures.finished)

pub add_section-requires-clause-whole : goal.add_section-requires-clause-whole
add_section-requires-clause-whole g c =
    let bytes = sections_text c.component.inside.buffer.settled in
    rw (c.into.ensures, c.len.ensures, c.ready-bytes.ensures) (item_piece (ComponentItem bytes) (bytes_serve (section_number ids.Component) bytes))

pub returns-clause-bytes : goal.returns-clause-bytes
returns-clause-bytes g c done =
    let n = c.component in
    let bytes = sections_text n.inside.buffer.settled in
    rw (← n.view_is)
    (alone_enters c.args.self.now c.add_section.new.self c.add_section.result (component_entry (option_copied c.args.debug_name) bytes)
    (indices_in spaces.Components 1) (option_copied c.args.debug_name)
    (record { alone = refl; defined = refl; named = refl })
    (rw (c.into.ensures, c.len.ensures, c.ready-bytes.ensures) (bytes_serve (section_number ids.Component) bytes)) c.add_section.ensures)
