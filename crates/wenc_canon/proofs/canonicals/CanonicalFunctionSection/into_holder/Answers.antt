use Rattle.std.proofs.Common.{rules}
use Rattle.wenc_canon.proofs.canonicals.CanonicalFunctionSection.into_holder.Goals as goal

pub returns-clause-same : goal.returns-clause-same
returns-clause-same g c = search rules
