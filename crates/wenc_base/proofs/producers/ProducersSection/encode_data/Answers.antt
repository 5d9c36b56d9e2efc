use Rattle.std.proofs.Common.{rules}
use Rattle.wenc_base.proofs.producers.ProducersSection.encode_data.Goals as goal

pub returns-clause-appended : goal.returns-clause-appended
returns-clause-appended g c = search rules

pub returns-clause-fields : goal.returns-clause-fields
returns-clause-fields g c = search rules
