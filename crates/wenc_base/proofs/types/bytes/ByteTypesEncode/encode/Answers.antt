use Rattle.wenc_base.specs.laws.Serves.{appends_as, fits_as}
use Rattle.wenc_base.proofs.OneByte.{bytes_serve}
use Rattle.wenc_base.proofs.types.bytes.ByteTypesEncode.encode.Goals as goal

pub returns-clause-appended : goal.returns-clause-appended
returns-clause-appended g c =
    rw (← c.self.view_is) (appends_as _ _ _ _ (bytes_serve c.self.inside.bytes c.self.invariant c.as_slice.ensures.short)
    (rw c.as_slice.ensures.same at c.encode.ensures.appended))

pub returns-clause-fits : goal.returns-clause-fits
returns-clause-fits g c =
    rw (← c.self.view_is) (fits_as c.encode.result (bytes_serve c.self.inside.bytes c.self.invariant c.as_slice.ensures.short)
    (rw c.as_slice.ensures.same at c.encode.ensures.fits))
