use Rattle.wenc_base.specs.laws.Serves.{appends_as}
use Rattle.wenc_base.proofs.Composites.{structure_serves}
use Rattle.wenc_base.proofs.types.composite.StructTypeEncode.encode.Goals as goal

pub returns-clause-appended : goal.returns-clause-appended
returns-clause-appended g c = appends_as _ _ _ _ (structure_serves c.args.self.now.fields.items) (rw c.as_slice.ensures.value at c.encode.ensures.appended)
