use Rattle.std.proofs.Common.{sym}
use Rattle.wenc_builder.proofs.Producing.{section_enters, fields_enter, still_builder}
use Rattle.wenc_builder.specs.inside.Spaces.{spaced}
use Rattle.wenc_builder.proofs.builder.ComponentBuilder.producers_section.Goals as goal

pub returns-clause-entered : goal.returns-clause-entered
returns-clause-entered g c fields holds =
    let call = rw (c.into.ensures, c.whole.ensures) at c.add_section.ensures in
    fields_enter c.args.producers.now c.self.inside.buffer (spaced c.self.inside.spaces c.self.inside.undo) c.add_section.new.self c.add_section.result
    (sym c.if-not-is_finished.ensures) call.stood call.bytes c.args.self.now c.self.invariant.0.agree c.self.view_is fields holds

pub returns-clause-bytes : goal.returns-clause-bytes
returns-clause-bytes g c done =
    let call = rw (c.into.ensures, c.whole.ensures) at c.add_section.ensures in
    section_enters c.args.producers.now c.self.inside.buffer (spaced c.self.inside.spaces c.self.inside.undo) c.add_section.new.self c.add_section.result
    (sym c.if-not-is_finished.ensures) call.stood call.bytes c.args.self.now c.self.invariant.0.agree c.self.view_is done

pub invariant_of-self : goal.invariant_of-self
invariant_of-self g c =
    let call = rw (c.into.ensures, c.whole.ensures) at c.add_section.ensures in (
      still_builder c.args.producers.now c.self.inside.buffer (spaced c.self.inside.spaces c.self.inside.undo) c.add_section.new.self c.add_section.result
          (sym c.if-not-is_finished.ensures) call.stood call.bytes c.self.invariant.0,
      c.self.invariant.1,
    )
