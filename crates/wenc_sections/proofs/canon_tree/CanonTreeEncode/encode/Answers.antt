use Rattle.wenc_base.specs.laws.Serves.{appends_as, fits_as}
use Rattle.wenc_sections.proofs.canon_tree.CanonTreeEncode.encode.Goals as goal

pub returns-clause-appended : goal.returns-clause-appended
returns-clause-appended g c = appends_as _ _ _ c.encode_behind.result c.operands.ensures (rw c.row.ensures.opcode at c.encode_behind.ensures.appended)

pub returns-clause-fits : goal.returns-clause-fits
returns-clause-fits g c = fits_as c.encode_behind.result c.operands.ensures (rw c.row.ensures.opcode at c.encode_behind.ensures.fits)
