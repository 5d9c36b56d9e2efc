use Rattle.wenc_base.specs.laws.Serves.{appends_as}
use Rattle.wenc_types.proofs.Serving.{case_serves}
use Rattle.wenc_types.proofs.encoders.defined_type.CaseEncode.encode.Goals as goal

pub returns-clause-appended : goal.returns-clause-appended
returns-clause-appended g c = appends_as _ _ _ _ (case_serves c.args.self.now.name.now c.args.self.now.ty) c.encode.ensures.appended
