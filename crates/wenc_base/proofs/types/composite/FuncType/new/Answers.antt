use Rattle.wenc_base.proofs.types.composite.FuncType.new.Goals as goal

pub returns-clause-params : goal.returns-clause-params
returns-clause-params g c =
    let run = c.in_ok-params.ensures.runs tt in
    (run.0, run.1, run.2, run.3.0)

pub returns-clause-results : goal.returns-clause-results
returns-clause-results g c =
    let run = c.in_ok-results.ensures.runs tt in
    (run.0, run.1, run.2, run.3.0)
