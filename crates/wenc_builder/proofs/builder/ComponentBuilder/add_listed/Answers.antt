use Rattle.std.proofs.Common.{[], refl, sym, ◌∙◌}
use Rattle.std.specs.Option.{option_copied}
use Rattle.wenc_base.specs.Prelude.{listed}
use Rattle.wenc_builder.specs.Prelude.{kind_id, spaced}
use Rattle.wenc_builder.proofs.Whole.{back, text_refused, whole_added, whole_stands, as_value, listed_added, listed_refused, section_refused, unfinished_refused}
use Rattle.wenc_builder.proofs.Viewed.{finished_is}
use Rattle.wenc_builder.proofs.builder.ComponentBuilder.add_listed.Goals as goal

pub returns-then-not-is_finished : goal.returns-then-not-is_finished
returns-then-not-is_finished g c =
    let p = listed (g.E.Encode.piece c.args.lead.now) g.T.Encode.piece (g.F.Encode.piece c.args.tail.now) in
    listed_refused g.I.Iterator.next_gives c.args.values c.args.self.now c.args.self.now _ _ p
    (unfinished_refused c.args.self.now _ (kind_id c.args.kind) c.args.space (option_copied c.args.name) (p [])
    (sym (finished_is c.self.inside.buffer (spaced c.self.inside.spaces c.self.inside.undo) c.args.self.now c.self.invariant.0.agree c.self.view_is)
    ∙ sym c.if-not-is_finished.ensures))

pub returns-in-Err : goal.returns-in-Err
returns-in-Err g c =
    let p = listed (g.E.Encode.piece c.args.lead.now) g.T.Encode.piece (g.F.Encode.piece c.args.tail.now) in
    let e = c.in-Err.ensures in
    listed_refused g.I.Iterator.next_gives c.args.values c.args.self.now _ c.in-Err.fault _ p
    (section_refused c.self.inside.buffer c.self.inside.spaces c.self.inside.undo c.self.invariant c.args.self.now c.self.view_is (sym c.if-not-is_finished.ensures)
    (kind_id c.args.kind) c.args.space (option_copied c.args.name) _ _ c.in-Err.fault (p []) e.warranted (rw e.err c.self.view_is))

pub returns-in-Ok : goal.returns-in-Ok
returns-in-Ok g c =
    let e = c.index_and_end.ensures in
    let run = c.in-Ok.ensures.ok in
    let p = listed (g.E.Encode.piece c.args.lead.now) g.T.Encode.piece (g.F.Encode.piece c.args.tail.now) in
    listed_added g.I.Iterator.next_gives c.args.values c.args.self.now _ c.index_and_end.result _ p (
      run.0,
      run.1,
      run.2,
      whole_added c.self.inside.buffer c.self.inside.spaces c.self.inside.undo c.self.invariant c.args.self.now c.self.view_is
          (sym c.if-not-is_finished.ensures) (kind_id c.args.kind) c.args.space (option_copied c.args.name) c.in_default.ensures.free
          c.append_between.new.self c.open.new.self c.in_default.ensures.ok (p run.0.items)
          (as_value c.open.new.self c.append_between.new.self (p run.0.items) run.3)
          c.index_and_end.new.buffer c.index_and_end.new.spaces c.index_and_end.result e.ok e.ended e.err e.given_up
          _ refl e.index e.all e.free e.warranted,
    )

pub returns-in-Err-append_between : goal.returns-in-Err-append_between
returns-in-Err-append_between g c =
    let e = c.in-Err-append_between.ensures in
    let run = e.warranted in
    let p = listed (g.E.Encode.piece c.args.lead.now) g.T.Encode.piece (g.F.Encode.piece c.args.tail.now) in
    let same = c.discard.ensures ∙ back c.self.inside.buffer c.self.inside.spaces c.self.inside.undo c.self.invariant c.args.self.now c.self.view_is
    (sym c.if-not-is_finished.ensures) (kind_id c.args.kind) c.args.space (option_copied c.args.name) c.append_between.new.self
    (rw (e.err, c.in_default.ensures.ok) refl) in
    record {
      ok = tt;
      refused = (
        run.0,
        run.1,
        text_refused c.self.inside.buffer c.self.inside.spaces c.self.inside.undo c.self.invariant c.args.self.now c.self.view_is
            (sym c.if-not-is_finished.ensures) (kind_id c.args.kind) c.args.space (option_copied c.args.name) _ _ c.in-Err-append_between.fault
            (p run.0.items) c.open.new.self c.in_default.ensures.ok run.2 (rw same c.self.view_is),
      );
    }

pub invariant_of-self : goal.invariant_of-self
invariant_of-self g c = rw c.in-Err.ensures.err c.self.invariant

pub invariant_of-self-in-Ok : goal.invariant_of-self-in-Ok
invariant_of-self-in-Ok g c =
    let e = c.index_and_end.ensures in
    let run = c.in-Ok.ensures.ok in
    let vs = run.0.items in
    let p = listed (g.E.Encode.piece c.args.lead.now) g.T.Encode.piece (g.F.Encode.piece c.args.tail.now) vs in
    whole_stands c.self.inside.buffer c.self.inside.spaces c.self.inside.undo c.self.invariant c.args.self.now c.self.view_is (sym c.if-not-is_finished.ensures)
    (kind_id c.args.kind) c.args.space (option_copied c.args.name) c.in_default.ensures.free c.append_between.new.self
    c.open.new.self c.in_default.ensures.ok p (as_value c.open.new.self c.append_between.new.self p run.3)
    c.index_and_end.new.buffer c.index_and_end.new.spaces c.index_and_end.result e.ok e.ended e.err e.given_up (c.requires.whole vs)

pub invariant_of-self-in-Err-append_between : goal.invariant_of-self-in-Err-append_between
invariant_of-self-in-Err-append_between g c =
    let e = c.in-Err-append_between.ensures in
    let same = c.discard.ensures ∙ back c.self.inside.buffer c.self.inside.spaces c.self.inside.undo c.self.invariant c.args.self.now c.self.view_is
    (sym c.if-not-is_finished.ensures) (kind_id c.args.kind) c.args.space (option_copied c.args.name) c.append_between.new.self
    (rw (e.err, c.in_default.ensures.ok) refl) in
    rw same c.self.invariant
