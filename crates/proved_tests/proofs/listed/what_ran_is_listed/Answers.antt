use Rattle.wenc_builder.specs.Entry.{items as items_of}
use Rattle.proved_tests.proofs.listed.what_ran_is_listed.Goals as goal

pub returns-clause-sections : goal.returns-clause-sections
returns-clause-sections c commands answers es ran no_raw fits ss =
    (c.listed.ensures.sections (items_of es) no_raw fits ss).0

pub returns-clause-faults : goal.returns-clause-faults
returns-clause-faults c commands answers es ran = c.listed.ensures.no_fault (items_of es)

pub returns-clause-too_deep : goal.returns-clause-too_deep
returns-clause-too_deep c commands answers es ran = c.listed.ensures.too_deep (items_of es)
