use Rattle.wenc_base.specs.laws.Serves.{appends_as}
use Rattle.wenc_types.proofs.Serving.{extern_serves}
use Rattle.wenc_types.proofs.type_tree.encode_extern.Goals as goal

pub returns-clause-appended : goal.returns-clause-appended
returns-clause-appended g c = appends_as _ _ _ _ (extern_serves _ _ c.as_name.ensures c.args.tag c.args.ty) c.encode.ensures.appended
