use Rattle.std.proofs.Common.{refl, sym, ◌∙◌}
use Rattle.std.specs.Option.{option_copied}
use Rattle.wenc_base.specs.Piece.{nothing}
use Rattle.wenc_builder.specs.inside.Layout.{kind_id}
use Rattle.wenc_builder.proofs.Whole.{back, begun_added, begun_stays, space_refused}
use Rattle.wenc_builder.proofs.builder.ComponentBuilder.open.Goals as goal

pub returns-in-Err : goal.returns-in-Err
returns-in-Err g c =
    let e = c.in-Err.ensures in
    let same = c.discard.ensures ∙ back c.self.inside.buffer c.self.inside.spaces c.self.inside.undo c.self.invariant c.args.self.now c.self.view_is
    (sym c.if-not-is_finished.ensures) (kind_id c.args.kind) c.args.space (option_copied c.args.name) c.open.new.self
    (rw c.in_ok-open.ensures.ok refl) in
    space_refused c.self.inside.buffer c.self.inside.spaces c.self.inside.undo c.self.invariant c.args.self.now c.self.view_is
    (sym c.if-not-is_finished.ensures) (kind_id c.args.kind) c.args.space (option_copied c.args.name) _ _ c.in-Err.fault nothing e.all e.warranted
    (rw (same, e.err) c.self.view_is)

pub returns-in-Ok : goal.returns-in-Ok
returns-in-Ok g c =
    let e = c.in-Ok.ensures in
    begun_added c.self.inside.buffer c.self.inside.spaces c.self.inside.undo c.self.invariant c.args.self.now c.self.view_is
    (sym c.if-not-is_finished.ensures) (kind_id c.args.kind) c.args.space (option_copied c.args.name) c.open.new.self c.in_ok-open.ensures.ok
    c.add.new.self e.ok c.state-undo.result c.state-undo.ensures e.all c.in_ok-open.ensures.free c.in-Ok.index e.index e.free

pub invariant_of-self : goal.invariant_of-self
invariant_of-self g c = rw c.in_err-open.ensures.err c.self.invariant

pub invariant_of-self-in-Err : goal.invariant_of-self-in-Err
invariant_of-self-in-Err g c =
    let same = c.discard.ensures ∙ back c.self.inside.buffer c.self.inside.spaces c.self.inside.undo c.self.invariant c.args.self.now c.self.view_is
    (sym c.if-not-is_finished.ensures) (kind_id c.args.kind) c.args.space (option_copied c.args.name) c.open.new.self
    (rw c.in_ok-open.ensures.ok refl) in
    rw (same, c.in-Err.ensures.err) c.self.invariant

pub invariant_of-self-in-Ok : goal.invariant_of-self-in-Ok
invariant_of-self-in-Ok g c =
    let e = c.in-Ok.ensures in
    begun_stays c.self.inside.buffer c.self.inside.spaces c.self.inside.undo c.self.invariant c.args.self.now c.self.view_is
    (sym c.if-not-is_finished.ensures) (kind_id c.args.kind) c.args.space (option_copied c.args.name) c.open.new.self c.in_ok-open.ensures.ok
    c.add.new.self e.ok c.state-undo.result c.state-undo.ensures e.all c.in_ok-open.ensures.free
