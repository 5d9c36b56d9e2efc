use Rattle.wenc.proofs.ListEnded.{listing_ends, unlisted_ends}
use Rattle.wenc.proofs.list.run_list.Goals as goal

pub returns-in-Ok-clause-ends : goal.returns-in-Ok-clause-ends
returns-in-Ok-clause-ends g c = listing_ends c.in-Ok.text _ _ _ _ _ _ c.in-Ok.ensures (rw c.as_slice.ensures.value at c.write_with_status.ensures)

pub returns-in-Err-clause-ends : goal.returns-in-Err-clause-ends
returns-in-Err-clause-ends g c = unlisted_ends _ _ _ _ _ _ _ c.in-Err.unlisted c.in-Err.ensures c.report_unlisted.ensures
