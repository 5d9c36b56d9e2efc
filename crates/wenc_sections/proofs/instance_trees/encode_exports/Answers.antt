use Rattle.std.proofs.Common.{Ok, Err, Result, OnErr, ◌∙◌, rules}
use Rattle.std.proofs.lemmas.List.{take_all}
use Rattle.wenc_base.proofs.Members.{warranted_member, written_at}
use Rattle.wenc_base.proofs.Runs.{handed_on}
use Rattle.wenc_base.specs.Prelude.{IsWarranted, member_cause}
use Rattle.wenc_base.specs.declared.fault.Fault.{Fault}
use Rattle.wenc_sections.specs.Prelude.{inline_export_tree}
use Rattle.wenc_sections.proofs.instance_trees.encode_exports.Goals as goal

-- what is so, is so where the outcome is a refusal
on_err : {T : Type 0} (outcome : Result T Fault) (P : Type 0) → P → OnErr outcome P
on_err (Ok v) P h = tt
on_err (Err fault) P h = h

pub returns-in_err-encode_export-clause-err : goal.returns-in_err-encode_export-clause-err
returns-in_err-encode_export-clause-err g c = on_err c.from_residual.result _ (_, c.in_err-encode_export.ensures.appended.err ∙ c.loop-export.invariant.items)

pub returns-in_err-encode_export-clause-warranted : goal.returns-in_err-encode_export-clause-warranted
returns-in_err-encode_export-clause-warranted g c =
    let warranted = warranted_member (λ e. (inline_export_tree e).Cause) c.args.exports.now c.loop-export.export-index c.export-item.result
    c.in_err-encode_export.field-0.0 c.loop-export.invariant.no_cause
    c.loop-export-test.true c.export-item.is c.in_err-encode_export.ensures.appended.warranted in
    handed_on (IsWarranted (member_cause (λ e. (inline_export_tree e).Cause) c.args.exports.now)) c.from_residual.result
    c.in_err-encode_export.field-0.0 c.from_residual.ensures.1 warranted

pub loop-export-preserved : goal.loop-export-preserved
loop-export-preserved g c =
    written_at inline_export_tree _ _ _ c.export-item.result _ _ c.loop-export.invariant c.loop-export-test.true c.export-item.is
    (search rules) c.in_ok-encode_export.ensures.fits
    (λ fault h. c.in_ok-encode_export.ensures.appended.encodable fault h)

pub returns-clause-ok : goal.returns-clause-ok
returns-clause-ok g c = rw (take_all c.loop-export.export-index c.args.exports.now c.loop-export-test.false) at c.loop-export.invariant
