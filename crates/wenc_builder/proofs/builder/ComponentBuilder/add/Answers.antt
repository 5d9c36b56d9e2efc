use Rattle.std.proofs.Common.{refl, sym, ◌∙◌}
use Rattle.std.specs.Option.{option_copied}
use Rattle.wenc_builder.specs.inside.Layout.{kind_id}
use Rattle.wenc_builder.proofs.Whole.{back, text_refused, whole_added, whole_stands}
use Rattle.wenc_builder.proofs.builder.ComponentBuilder.add.Goals as goal

pub returns-in-Ok : goal.returns-in-Ok
returns-in-Ok g c =
    let e = c.index_and_end.ensures in
    whole_added c.self.inside.buffer c.self.inside.spaces c.self.inside.undo c.self.invariant c.args.self.now c.self.view_is (sym c.if-not-is_finished.ensures)
    (kind_id c.args.kind) c.args.space (option_copied c.args.name) c.in_ok-open.ensures.free c.append_encoded.new.self
    c.open.new.self c.in_ok-open.ensures.ok (g.E.Encode.piece c.args.item.now) c.in-Ok.ensures.appended
    c.index_and_end.new.buffer c.index_and_end.new.spaces c.index_and_end.result e.ok e.ended e.err e.given_up
    _ refl e.index e.all e.free e.warranted

pub returns-in-Err : goal.returns-in-Err
returns-in-Err g c =
    let e = c.in-Err.ensures.appended in
    let same = c.discard.ensures ∙ back c.self.inside.buffer c.self.inside.spaces c.self.inside.undo c.self.invariant c.args.self.now c.self.view_is
    (sym c.if-not-is_finished.ensures) (kind_id c.args.kind) c.args.space (option_copied c.args.name) c.append_encoded.new.self
    (rw (e.err, c.in_ok-open.ensures.ok) refl) in
    text_refused c.self.inside.buffer c.self.inside.spaces c.self.inside.undo c.self.invariant c.args.self.now c.self.view_is (sym c.if-not-is_finished.ensures)
    (kind_id c.args.kind) c.args.space (option_copied c.args.name) _ _ c.in-Err.fault (g.E.Encode.piece c.args.item.now)
    c.open.new.self c.in_ok-open.ensures.ok e.warranted (rw same c.self.view_is)

pub invariant_of-self : goal.invariant_of-self
invariant_of-self g c = rw c.in_err-open.ensures.err c.self.invariant

pub invariant_of-self-in-Ok : goal.invariant_of-self-in-Ok
invariant_of-self-in-Ok g c =
    let e = c.index_and_end.ensures in
    whole_stands c.self.inside.buffer c.self.inside.spaces c.self.inside.undo c.self.invariant c.args.self.now c.self.view_is (sym c.if-not-is_finished.ensures)
    (kind_id c.args.kind) c.args.space (option_copied c.args.name) c.in_ok-open.ensures.free c.append_encoded.new.self
    c.open.new.self c.in_ok-open.ensures.ok (g.E.Encode.piece c.args.item.now) c.in-Ok.ensures.appended
    c.index_and_end.new.buffer c.index_and_end.new.spaces c.index_and_end.result e.ok e.ended e.err e.given_up c.requires

pub invariant_of-self-in-Err : goal.invariant_of-self-in-Err
invariant_of-self-in-Err g c =
    let e = c.in-Err.ensures.appended in
    let same = c.discard.ensures ∙ back c.self.inside.buffer c.self.inside.spaces c.self.inside.undo c.self.invariant c.args.self.now c.self.view_is
    (sym c.if-not-is_finished.ensures) (kind_id c.args.kind) c.args.space (option_copied c.args.name) c.append_encoded.new.self
    (rw (e.err, c.in_ok-open.ensures.ok) refl) in
    rw same c.self.invariant
