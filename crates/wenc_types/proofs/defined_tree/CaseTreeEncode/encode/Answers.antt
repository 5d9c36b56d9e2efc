use Rattle.std.specs.String.{string_bytes}
use Rattle.wenc_base.specs.laws.Serves.{appends_as}
use Rattle.wenc_types.proofs.Serving.{case_serves}
use Rattle.wenc_types.proofs.defined_tree.CaseTreeEncode.encode.Goals as goal

pub returns-clause-appended : goal.returns-clause-appended
returns-clause-appended g c = appends_as _ _ _ _ (case_serves (string_bytes c.args.self.now.name) c.args.self.now.ty)
    (rw c.as_str.ensures.value at c.encode.ensures.appended)
