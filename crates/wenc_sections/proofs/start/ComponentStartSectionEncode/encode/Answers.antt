use Rattle.wenc_base.specs.laws.Serves.{appends_as, fits_as}
use Rattle.wenc_sections.proofs.Served.{start_serves}
use Rattle.wenc_sections.proofs.start.ComponentStartSectionEncode.encode.Goals as goal

pub returns-clause-appended : goal.returns-clause-appended
returns-clause-appended g c =
    rw (← c.as_slice.ensures) (appends_as _ _ _ _ (start_serves c.args.self.now.function_index c.as_slice.result.now
    c.args.self.now.results) c.encode.ensures.appended)

pub returns-clause-fits : goal.returns-clause-fits
returns-clause-fits g c =
    rw (← c.as_slice.ensures) (fits_as _ (start_serves c.args.self.now.function_index c.as_slice.result.now c.args.self.now.results) c.encode.ensures.fits)
