use Rattle.wenc_list.proofs.Listed.{opening_fault}
use Rattle.wenc_list.proofs.cursor.Sections.next.Goals as goal

pub returns-in-Err-clause-unopened : goal.returns-in-Err-clause-unopened
returns-in-Err-clause-unopened c =
    rw c.section_fault.ensures (opening_fault c.args.self.now.ends c.place.result c.args.self.now.rest.now c.in-Err.refusal c.in-Err.ensures.unopened)
