use Rattle.std.proofs.Common.{rules}
use Rattle.wenc_base.specs.Fault.{IsWarranted, member_cause}
use Rattle.wenc_base.proofs.Members.{warranted_member, written_at}
use Rattle.wenc_base.proofs.Runs.{handed_on}
use Rattle.wenc_base.proofs.encode.slices.encode_each.Goals as goal

pub returns-in_err-encode-clause-warranted : goal.returns-in_err-encode-clause-warranted
returns-in_err-encode-clause-warranted g c =
    let warranted = warranted_member (λ v. (g.T.Encode.piece v).Cause) c.args.values.now c.loop-value.value-index c.value-item.result
    c.in_err-encode.field-0.0 c.loop-value.invariant.no_cause c.loop-value-test.true c.value-item.is
    c.in_err-encode.ensures.appended.warranted in
    handed_on (IsWarranted (member_cause (λ v. (g.T.Encode.piece v).Cause) c.args.values.now)) c.from_residual.result
    c.in_err-encode.field-0.0 c.from_residual.ensures.1 warranted

pub loop-value-preserved : goal.loop-value-preserved
loop-value-preserved g c =
    written_at g.T.Encode.piece _ _ _ c.value-item.result _ _ c.loop-value.invariant c.loop-value-test.true c.value-item.is
    (search rules) c.in_ok-encode.ensures.fits
    (λ fault h. c.in_ok-encode.ensures.appended.encodable fault h)
