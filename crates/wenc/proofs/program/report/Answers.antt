use Rattle.std.proofs.Common.{inr}
use Rattle.wenc_base.specs.declared.fault.Fault.TheVariants.{Memory}
use Rattle.wenc.proofs.Ended.{fault_report_memory}
use Rattle.wenc.proofs.program.report.Goals as goal

pub returns-in-Err : goal.returns-in-Err
returns-in-Err g c = rw c.in-BadLine.is (inr (rw (fault_report_memory (Memory c.in-Err.error) tt) at c.report_fault.ensures))
