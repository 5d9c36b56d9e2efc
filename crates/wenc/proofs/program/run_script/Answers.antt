use Rattle.wenc.proofs.Ended.{ends_printed, ends_failed}
use Rattle.wenc.proofs.program.run_script.Goals as goal

pub returns-in-Ok-clause-ends : goal.returns-in-Ok-clause-ends
returns-in-Ok-clause-ends g c = ends_printed c.in-Ok.printout _ _ _ _ _ _ c.in-Ok.ensures c.print.ensures

pub returns-in-Err-clause-ends : goal.returns-in-Err-clause-ends
returns-in-Err-clause-ends g c = ends_failed c.in-Err.failure _ _ _ _ _ _ c.in-Err.ensures c.report.ensures
