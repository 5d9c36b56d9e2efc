use Rattle.wenc_base.specs.Prelude.{HolderState, behind_bytes, list, member_appended}
use Rattle.wenc_base.specs.Prelude.{no_room_in_holder}
use Rattle.wenc_base.specs.laws.Parents.{carried_list}
use Rattle.wenc_types.specs.Prelude.{TypeState}
use Rattle.wenc_types.proofs.declarations.DeclarationsParent.append_list.Goals as goal

pub returns : goal.returns
returns g c =
    let t = c.self.inside in
    rw (← c.self.view_is) (carried_list (λ (h : HolderState). let d : TypeState = record { held = h; counts = t.counts; begun = t.begun } in
    d) g.I.Iterator.next_gives c.args.values t.held c.append_listed.new.self c.append_listed.result
    (member_appended t.held) (no_room_in_holder t.held) (λ vs. behind_bytes c.args.lead.now (list g.T.Encode.piece vs)) c.append_listed.ensures)
