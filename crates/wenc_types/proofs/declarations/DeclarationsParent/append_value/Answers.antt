use Rattle.wenc_base.specs.Prelude.{HolderState, member_appended, no_room_in_holder}
use Rattle.wenc_base.specs.laws.Parents.{carried}
use Rattle.wenc_types.specs.Prelude.{TypeState}
use Rattle.wenc_types.proofs.declarations.DeclarationsParent.append_value.Goals as goal

pub returns-clause-appended : goal.returns-clause-appended
returns-clause-appended g c =
    let t = c.self.inside in
    let text = (g.E.Encode.piece c.args.value.now).text in
    rw (← c.self.view_is) (carried (λ (h : HolderState). let d : TypeState = record { held = h; counts = t.counts; begun = t.begun } in d)
    t.held c.append_encoded.new.self (member_appended t.held text) c.append_encoded.result
    (no_room_in_holder t.held text) c.append_encoded.ensures.appended)
