use Rattle.wenc_builder.proofs.Standing.{without_index_outcome}
use Rattle.std.proofs.Common.{sym}
use Rattle.wenc_builder.proofs.Named.{none_named_there, names_there, names_stood, written, written_text}
use Rattle.wenc_builder.specs.inside.Spaces.{spaced}
use Rattle.wenc_builder.proofs.Undone.{no_undo}
use Rattle.wenc_builder.proofs.builder.ComponentBuilder.append_names.Goals as goal

pub returns-then-is_empty : goal.returns-then-is_empty
returns-then-is_empty g c =
    let quiet = no_undo c.self.inside.buffer c.self.inside.spaces c.self.inside.undo c.self.invariant.0.agree (sym c.if-not-is_finished.ensures) in
    none_named_there c.self.inside.buffer (spaced c.self.inside.spaces c.self.inside.undo) c.args.self.now (λ n. (n.0, n.1.now)) c.sorted_names-names.result.0
    c.self.invariant.0.agree c.self.view_is (sym c.if-not-is_finished.ensures) (rw quiet c.sorted_names-names.ensures) (sym c.if-is_empty.ensures)

pub returns : goal.returns
returns g c =
    let quiet = no_undo c.self.inside.buffer c.self.inside.spaces c.self.inside.undo c.self.invariant.0.agree (sym c.if-not-is_finished.ensures) in
    let call = rw (c.into.ensures, c.whole.ensures) at c.add_section.ensures in
    names_there c.self.inside.buffer (spaced c.self.inside.spaces c.self.inside.undo) c.args.self.now (λ n. (n.0, n.1.now)) c.sorted_names-names.result.0
    c.self.invariant.0.agree c.self.view_is (sym c.if-not-is_finished.ensures) (rw quiet c.sorted_names-names.ensures)
    c.add_section.new.self c.add_section.result call.stood call.bytes (sym c.if-is_empty.ensures)

pub invariant_of-self : goal.invariant_of-self
invariant_of-self g c =
    let quiet = no_undo c.self.inside.buffer c.self.inside.spaces c.self.inside.undo c.self.invariant.0.agree (sym c.if-not-is_finished.ensures) in
    let call = rw (c.into.ensures, c.whole.ensures) at c.add_section.ensures in
    let stood = names_stood c.self.inside.buffer (spaced c.self.inside.spaces c.self.inside.undo) c.args.self.now
    (λ n. (n.0, n.1.now)) c.sorted_names-names.result.0 c.self.invariant.0.agree c.self.view_is
    (sym c.if-not-is_finished.ensures) (rw quiet c.sorted_names-names.ensures) c.add_section.new.self c.add_section.result call.stood call.bytes in (
      without_index_outcome c.self.inside.buffer (spaced c.self.inside.spaces c.self.inside.undo) c.self.invariant.0
          (sym c.if-not-is_finished.ensures) c.add_section.new.self c.add_section.result
          (written (λ n. (n.0, n.1.now)) c.sorted_names-names.result.0)
          (written_text c.self.inside.buffer (spaced c.self.inside.spaces c.self.inside.undo) c.args.self.now (λ n. (n.0, n.1.now)) c.sorted_names-names.result.0
          c.self.invariant.0.agree c.self.view_is (sym c.if-not-is_finished.ensures) (rw quiet c.sorted_names-names.ensures)) stood.fits stood.ok stood.err,
      c.self.invariant.1,
    )
