use Rattle.wenc.proofs.Ended.{fault_reported}
use Rattle.wenc.proofs.program.report_fault.Goals as goal

pub returns : goal.returns
returns g c = rw (fault_reported c.args.fault c.number-number.result c.number-number.ensures) at c.write_with_status.ensures
