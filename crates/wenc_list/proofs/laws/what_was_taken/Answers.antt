use Rattle.wenc_list.proofs.Taken.{none_taken, one_more_taken, taken_read, taken_within, taken_fault}
use Rattle.wenc_list.proofs.laws.what_was_taken.Goals as goal

pub returns-clause-none : goal.returns-clause-none
returns-clause-none c = none_taken

pub returns-clause-more : goal.returns-clause-more
returns-clause-more c = one_more_taken

pub returns-clause-read : goal.returns-clause-read
returns-clause-read c ends bytes rest first left xs o t p = (taken_read ends bytes rest first xs left o t p, taken_within first.id xs t.within)

pub returns-clause-fault : goal.returns-clause-fault
returns-clause-fault c ends bytes rest first left xs o t fault f = taken_fault ends bytes rest first xs left fault o t f
