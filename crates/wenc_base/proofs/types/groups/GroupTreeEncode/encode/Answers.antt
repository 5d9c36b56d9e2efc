use Rattle.wenc_base.specs.laws.Serves.{appends_as, fits_as}
use Rattle.wenc_base.proofs.Composites.{group_serves}
use Rattle.wenc_base.proofs.types.groups.GroupTreeEncode.encode.Goals as goal

pub returns-in-Rec-clause-appended : goal.returns-in-Rec-clause-appended
returns-in-Rec-clause-appended g c = rw c.in-Rec.is
    (appends_as _ _ _ _ (group_serves c.in-Rec.types.items) (rw c.as_slice.ensures.value at c.encode-in-Rec.ensures.appended))

pub returns-in-Rec-clause-fits : goal.returns-in-Rec-clause-fits
returns-in-Rec-clause-fits g c = rw c.in-Rec.is (fits_as _ (group_serves c.in-Rec.types.items) (rw c.as_slice.ensures.value at c.encode-in-Rec.ensures.fits))
