use Rattle.std.proofs.Common.{Result, Ok, Err, OnErr}
use Rattle.wenc_base.specs.declared.fault.Fault.{Fault}
use Rattle.std.proofs.Common.{rules, ◌∙◌}
use Rattle.wenc_base.proofs.Members.{warranted_member, written_at}
use Rattle.wenc_builder.specs.DebugNames.{space_names}
use Rattle.wenc_builder.proofs.builder.debug_names.encode_each.Goals as goal

pub returns-in_err-encode-clause-warranted : goal.returns-in_err-encode-clause-warranted
returns-in_err-encode-clause-warranted g c =
    let warranted = warranted_member (λ n. (space_names (n.0, n.1.now)).Cause) c.args.names.now c.loop-one.one-index c.one-item.result
    c.in_err-encode.field-0.0 c.loop-one.invariant.no_cause c.loop-one-test.true c.one-item.is
    c.in_err-encode.ensures.appended.warranted in
    search rules

in_err : {A : Type 0} (r : Result (Unit {0}) Fault) → A → OnErr r A
in_err (Ok u) a = tt
in_err (Err fault) a = a

pub returns-in_err-encode-clause-err : goal.returns-in_err-encode-clause-err
returns-in_err-encode-clause-err g c = in_err c.from_residual.result (_, c.in_err-encode.ensures.appended.err ∙ c.loop-one.invariant.items)

pub loop-one-preserved : goal.loop-one-preserved
loop-one-preserved g c =
    written_at (λ n. space_names (n.0, n.1.now)) _ _ _ c.one-item.result _ _ c.loop-one.invariant c.loop-one-test.true c.one-item.is
    (search rules) c.in_ok-encode.ensures.fits (λ fault h. c.in_ok-encode.ensures.appended.encodable fault h)
