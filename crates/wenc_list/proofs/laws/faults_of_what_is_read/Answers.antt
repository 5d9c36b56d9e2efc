use Rattle.wenc_list.proofs.Faults.{no_fault, too_deep}
use Rattle.wenc_list.proofs.laws.faults_of_what_is_read.Goals as goal

pub returns-clause-no_fault : goal.returns-clause-no_fault
returns-clause-no_fault c = no_fault

pub returns-clause-too_deep : goal.returns-clause-too_deep
returns-clause-too_deep c = too_deep
