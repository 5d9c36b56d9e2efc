use Rattle.std.proofs.Common.{refl}
use Rattle.wenc_base.specs.laws.Serves.{appends_as, fits_as}
use Rattle.wenc_types.proofs.Serving.{function_tree_serves}
use Rattle.wenc_types.proofs.type_tree.encode_function.Goals as goal
use Rattle.wenc_types.proofs.type_tree.encode_function.Goals.{then-is_async, else-is_async}

pub returns-clause-appended : goal.returns-clause-appended
returns-clause-appended g c = appends_as _ _ _ _
    (function_tree_serves c.args.is_async c.if-is_async.tag c.args.params.now.items c.args.answer
    (elim c.if-is_async.branch [ then-is_async w ↦ rw (w.if-is_async.true, w.tag-is) refl | else-is_async w ↦ rw (w.if-is_async.false, w.tag-is) refl ]))
    (rw c.as_slice.ensures.value at c.encode.ensures.appended)

pub returns-clause-fits : goal.returns-clause-fits
returns-clause-fits g c = fits_as _
    (function_tree_serves c.args.is_async c.if-is_async.tag c.args.params.now.items c.args.answer
    (elim c.if-is_async.branch [ then-is_async w ↦ rw (w.if-is_async.true, w.tag-is) refl | else-is_async w ↦ rw (w.if-is_async.false, w.tag-is) refl ]))
    (rw c.as_slice.ensures.value at c.encode.ensures.fits)
