use Rattle.std.proofs.Common.{◌≡◌, sym, ◌∙◌}
use Rattle.std.specs.Option.{option_copied}
use Rattle.wenc_builder.specs.Prelude.{indices_in, spaced, with_bytes}
use Rattle.wenc_builder.proofs.OwnSections.{alone_without_indices, alone_unwritten}
use Rattle.wenc_builder.proofs.Standing.{alone_stands}
use Rattle.wenc_builder.proofs.Undone.{no_undo, is_of, undone_is}
use Rattle.wenc_builder.proofs.builder.ComponentBuilder.add_section.Goals as goal

pub returns-in-Err : goal.returns-in-Err
returns-in-Err g c =
    let e = c.in-Err.ensures in
    let quiet = no_undo c.self.inside.buffer c.self.inside.spaces c.self.inside.undo c.self.invariant.0.agree (sym c.if-not-is_finished.ensures) in
    alone_without_indices c.self.inside.buffer (spaced c.self.inside.spaces c.self.inside.undo) c.args.self.now _ c.in-Err.fault (indices_in c.args.space c.args.number)
    (option_copied c.args.name) _ c.self.invariant.0.agree c.self.view_is (sym c.if-not-is_finished.ensures)
    (rw e.err c.self.view_is) (rw (← c.self.view_is, quiet) e.all) (rw (← c.self.view_is, quiet) e.warranted)

pub returns-in-Err-add_section : goal.returns-in-Err-add_section
returns-in-Err-add_section g c =
    let back : c.go_back.new.self ≡ c.self.inside.spaces = c.go_back.ensures ∙ rw (c.in-Ok.ensures.ok, c.state-undo.ensures)
    (undone_is c.self.inside.spaces c.args.space c.args.number (option_copied c.args.name) c.in-Ok.ensures.all) in
    let e = c.in-Err-add_section.ensures.stood in
    alone_unwritten c.self.inside.buffer (spaced c.self.inside.spaces c.self.inside.undo) c.args.self.now _ c.in-Err-add_section.fault (indices_in c.args.space c.args.number)
    (option_copied c.args.name) _ c.self.invariant.0.agree c.self.view_is (sym c.if-not-is_finished.ensures)
    (rw (e.err, back) c.self.view_is) e.warranted

pub invariant_of-self : goal.invariant_of-self
invariant_of-self g c = rw c.in-Err.ensures.err c.self.invariant

pub go_back-requires : goal.go_back-requires
go_back-requires g c = rw (c.in-Ok.ensures.ok, c.state-undo.ensures)
    (is_of c.self.inside.spaces c.args.space c.args.number (option_copied c.args.name) c.in-Ok.ensures.all)

pub invariant_of-self-in-Ok-add_section : goal.invariant_of-self-in-Ok-add_section
invariant_of-self-in-Ok-add_section g c =
    let quiet = no_undo c.self.inside.buffer c.self.inside.spaces c.self.inside.undo c.self.invariant.0.agree (sym c.if-not-is_finished.ensures) in
    let stands = alone_stands c.self.inside.buffer (spaced c.self.inside.spaces c.self.inside.undo) c.self.invariant.0 (sym c.if-not-is_finished.ensures) c.args.space c.args.number
    (option_copied c.args.name) (with_bytes (g.E.Encode.piece c.args.lead.now) c.args.bytes.now).text c.requires.nameless
    (c.requires.whole c.in-Ok-add_section.ensures.stood.fits) in
    rw (c.in-Ok-add_section.ensures.stood.ok, c.in-Ok.ensures.ok, quiet) (rw quiet at stands, tt)

pub invariant_of-self-in-Err-add_section : goal.invariant_of-self-in-Err-add_section
invariant_of-self-in-Err-add_section g c =
    let back : c.go_back.new.self ≡ c.self.inside.spaces = c.go_back.ensures ∙ rw (c.in-Ok.ensures.ok, c.state-undo.ensures)
    (undone_is c.self.inside.spaces c.args.space c.args.number (option_copied c.args.name) c.in-Ok.ensures.all) in
    rw (c.in-Err-add_section.ensures.stood.err, back) c.self.invariant
